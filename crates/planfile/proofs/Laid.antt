-- One write behind another: the rest of a buffer is handed on, `&mut out[n..]`.
use Rattle.std.proofs.Common.{◌≡◌, ℕ, ◌+◌, ◌-◌, ◌≤◌, List, [], ◌++◌, length, take, drop, sym, ap, ◌∙◌, arith}
use borrow.Rule.Slice.PartMut.{put_mid}
use Rattle.std.proofs.lemmas.List.{append_assoc, append-nil, drop_all, drop_at, drop-drop, length-append, length-drop, take_at, take_rest}
use Rattle.planfile.specs.Laying.{Put, laid}

-- what is lent on
abbrev pub rest : List ℕ → ℕ → List ℕ
rest now n = take (length now - n) (drop n now)

module _ {bs buffer now : List ℕ} {n : ℕ} (b : Put bs buffer now n) where
  rest_of : rest now n ≡ drop (length bs) buffer
  rest_of = take_rest now n ∙ ap (drop n) b.front ∙ drop_at bs (drop (length bs) buffer) n (sym b.count)

  module _ (cs : List ℕ) where
    pub put_room : length (bs ++ cs) ≤ length buffer → length cs ≤ length (rest now n)
    put_room room = omega (arith, ap length rest_of, length-drop (length bs) buffer, length-append bs cs)

    -- cs was written to the front of the rest, which made `after` of it
    pub put_more : (after : List ℕ) (m : ℕ) → Put cs (rest now n) after m → Put (bs ++ cs) buffer (put_mid n (length now - n) now after) (n + m)
    put_more after m p =
        let front : take n now ≡ bs = ap (take n) b.front ∙ take_at bs (drop (length bs) buffer) n (sym b.count) in
        let past : drop (length now - n) (drop n now) ≡ [] = drop_all (length now - n) (drop n now) (omega (arith, length-drop n now)) in
        let wrote : after ≡ cs ++ drop (length bs + length cs) buffer = p.front ∙ ap (laid cs) rest_of ∙ ap (λ xs. cs ++ xs) (drop-drop (length cs) (length bs) buffer) in
        let long = length-append bs cs in
        record {
          count = omega (arith, long, b.count, p.count);
          front =
              (λ i. front i ++ (wrote i ++ past i)) ∙ ap (λ xs. bs ++ xs) (append-nil (cs ++ drop (length bs + length cs) buffer))
              ∙ sym (append_assoc bs cs (drop (length bs + length cs) buffer)) ∙ ap (λ m. (bs ++ cs) ++ drop m buffer) (sym long);
        }

-- what is to be written, in three parts
pub record Parts (all bs cs ds : List ℕ) : Type 0 where
  pub is : all ≡ bs ++ (cs ++ ds)

-- a buffer that has room for all parts, of which the first is written
module _ {all bs cs ds buffer now : List ℕ} {n : ℕ} (parts : Parts all bs cs ds) (room : length all ≤ length buffer) (b : Put bs buffer now n) where
  long : length (bs ++ cs) + length ds ≤ length buffer
  long = omega (arith, room, ap length parts.is, length-append bs (cs ++ ds), length-append cs ds, length-append bs cs)

  pub second_room : length cs ≤ length (rest now n)
  second_room = put_room b cs (omega (arith, long))

  module _ {after : List ℕ} {m : ℕ} (p : Put cs (rest now n) after m) where
    both : Put (bs ++ cs) buffer (put_mid n (length now - n) now after) (n + m)
    both = put_more b cs after m p

    pub third_room : length ds ≤ length (rest (put_mid n (length now - n) now after) (n + m))
    third_room = put_room both ds (omega (arith, long, length-append (bs ++ cs) ds))

    pub all_put : {last : List ℕ} {l : ℕ} → Put ds (rest (put_mid n (length now - n) now after) (n + m)) last l
        → Put all buffer (put_mid (n + m) (length (put_mid n (length now - n) now after) - (n + m)) (put_mid n (length now - n) now after) last) (n + m + l)
    all_put {last = last} {l} q =
        let whole = put_more both ds last l q in
        let same : (bs ++ cs) ++ ds ≡ all = append_assoc bs cs ds ∙ sym parts.is in
        record { count = whole.count ∙ ap length same; front = whole.front ∙ ap (λ xs. laid xs buffer) same }
