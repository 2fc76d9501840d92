-- The layer, the number, the place and the reason of each refusal, one line a case.
use Rattle.std.specs.Prelude.{ℕ, List, codes}
use Rattle.refusal.specs.declared.Layer.{Layer}
use Rattle.refusal.specs.declared.Layer.TheVariants.{File, Plan, Bank}
use Rattle.refusal.specs.declared.Place.{Place}
use Rattle.refusal.specs.declared.Place.TheVariants.{Nowhere, At}
use Rattle.refusal.specs.declared.Refusal.{Refusal}
use Rattle.refusal.specs.declared.Refusal.TheVariants.{BadVersion, CutShort, BadRecord, OutOfRange, TooMany, NoMaster, BufferTooShort, TargetTooLarge, SizeTooLarge, ShapeWhileWaiting}

abbrev pub layer_of : Refusal → Layer
layer_of BadVersion = File
layer_of (CutShort at) = File
layer_of (BadRecord at) = File
layer_of (OutOfRange at) = File
layer_of (TooMany at) = File
layer_of (NoMaster at) = File
layer_of (BufferTooShort needed) = File
layer_of TargetTooLarge = Plan
layer_of SizeTooLarge = Bank
layer_of ShapeWhileWaiting = Bank

abbrev pub number_of : Refusal → ℕ
number_of BadVersion = 1
number_of (CutShort at) = 2
number_of (BadRecord at) = 3
number_of (OutOfRange at) = 4
number_of (TooMany at) = 5
number_of (NoMaster at) = 6
number_of (BufferTooShort needed) = 11
number_of TargetTooLarge = 21
number_of SizeTooLarge = 51
number_of ShapeWhileWaiting = 52

abbrev pub place_of : Refusal → Place
place_of BadVersion = At 0
place_of (CutShort at) = At at
place_of (BadRecord at) = At at
place_of (OutOfRange at) = At at
place_of (TooMany at) = At at
place_of (NoMaster at) = At at
place_of (BufferTooShort needed) = At needed
place_of TargetTooLarge = Nowhere
place_of SizeTooLarge = Nowhere
place_of ShapeWhileWaiting = Nowhere

abbrev pub reason_of : Refusal → List ℕ
reason_of BadVersion = codes "no byte, or a version other than 1"
reason_of (CutShort at) = codes "fewer bytes left than the record announces or its length field needs"
reason_of (BadRecord at) = codes "unknown kind, wrong length or wrong order"
reason_of (OutOfRange at) = codes "a number out of range"
reason_of (TooMany at) = codes "a ninth master, ninth high stream or fifth low stream"
reason_of (NoMaster at) = codes "no master"
reason_of (BufferTooShort needed) = codes "the buffer is shorter than the bytes needed"
reason_of TargetTooLarge = codes "a target above 16777215"
reason_of SizeTooLarge = codes "a size above 8"
reason_of ShapeWhileWaiting = codes "a stream waits in the bank that is to be shaped"
