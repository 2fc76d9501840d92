-- The batch queue keeps what a line must.
use Rattle.std.specs.Prelude.{◌≡◌, ℕ, ◌+◌, ◌-◌, ◌<◌, ◌≤◌, Bool, true, false, Some, None, Option, ◌≢◌, nat_lt, refl}
use Rattle.std.proofs.Common.{sym, ap, subst, ◌∙◌, ⊎_elim, arith}
use Rattle.std.proofs.lemmas.Bool.{cases_Bool}
use Rattle.std.proofs.lemmas.Bool.Decides.{nat_tests}
use Rattle.bank.specs.Meaning.{Idle, Orderly, Waits, Free, Joined, Given, LinePut, LineTake}
use Rattle.streams.specs.Streams.{without, count, Empty, Lowest, Newcomer}
use Rattle.batch.specs.Groups.{Groups, Apart, Gives, waiting, groups_line, groups_past, groups_turned, groups_with, new_groups, GroupsPut, GroupsTake}
use Rattle.batch.specs.Groups.Gives.{of_closed, of_gathered}
use Rattle.streams.proofs.Counts.{count_le, count_lacks, count_member, count_without}

-- where a stream stands, with its left number
data Stands (g : Groups) (i : ℕ) : Type 0 where
  in_closed : g.closed i ≡ true → (groups_line g).left i ≡ count g.closed i → Stands g i
  in_open : g.closed i ≡ false → g.gathered i ≡ true → (groups_line g).left i ≡ count g.closed g.size + i → Stands g i
  nowhere : g.closed i ≡ false → g.gathered i ≡ false → (groups_line g).left i ≡ 0 → Stands g i

module _ (g : Groups) (i : ℕ) where
  -- in the closed group, the left number is its members so far
  left_closed : g.closed i ≡ true → (groups_line g).left i ≡ count g.closed i
  left_closed c = grind (arith, nat_tests)

  -- in the open group, it is the whole closed one and i
  left_open : g.closed i ≡ false → g.gathered i ≡ true → (groups_line g).left i ≡ count g.closed g.size + i
  left_open c o = grind (arith, nat_tests)

  -- in neither, it is 0
  left_nowhere : g.closed i ≡ false → g.gathered i ≡ false → (groups_line g).left i ≡ 0
  left_nowhere c o = grind (arith, nat_tests)

  -- a stream stands in the closed group, in the open one or in neither
  stands : Stands g i
  stands =
      ⊎_elim
      (λ c. in_closed c (left_closed c))
      (λ c. ⊎_elim (λ o. in_open c o (left_open c o)) (λ o. nowhere c o (left_nowhere c o)) (cases_Bool (g.gathered i)))
      (cases_Bool (g.closed i))

  -- the turns of a stream
  turns_within : 1 ≤ i → i ≤ g.size → (groups_line g).turns i ≡ (g.size + i) - 1
  turns_within low high = grind (arith, nat_tests)

module _ (g : Groups) (a : Apart g) where
  -- the left number of a stream is at most its turns
  groups_near : (i : ℕ) → (groups_line g).left i ≤ (groups_line g).turns i
  groups_near i = grind (arith, nat_tests, count_le g.closed i, count_lacks g.closed g.size i)

  -- the numbers of the line keep their ranges
  pub groups_orderly : Orderly (groups_line g)
  groups_orderly = record {
    few = a.few;
    turned = λ i w. let t = turns_within g i w.0 w.1 in (omega arith, omega arith);
    beyond = λ i out. grind (arith, nat_tests);
    near = groups_near;
  }

  -- the left number is above 0 exactly where the stream waits
  pub groups_waits : (i : ℕ) → nat_lt 0 ((groups_line g).left i) ≡ waiting g i
  groups_waits i = grind (arith, nat_tests, count_member g.closed i)

  -- a stream with the left number 0 is in neither group
  absent : (i : ℕ) → (groups_line g).left i ≡ 0 → (g.closed i ≡ false) × (g.gathered i ≡ false)
  absent i z = let none = groups_waits i in (grind (arith, nat_tests), grind (arith, nat_tests))

-- of a new queue nobody waits
pub groups_new : (n : ℕ) → Idle (groups_line (new_groups n))
groups_new n i = refl

module _ (g : Groups) (i : ℕ) (a : Apart g) where
  -- a put of a newcomer keeps the groups apart
  pub put_apart : Newcomer g.size (waiting g) i → Apart (groups_with g i)
  put_apart w = record {
    few = a.few;
    closed = a.closed;
    gathered = λ j h. grind (arith, nat_tests);
    once = λ j c. grind (arith, nat_tests);
  }

  -- so does a take from the closed group
  pub closed_apart : Apart (groups_past g i)
  closed_apart = record {
    few = a.few;
    closed = λ j h. grind (arith, nat_tests);
    gathered = a.gathered;
    once = λ j h. grind (arith, nat_tests);
  }

module _ (g : Groups) (i : ℕ) where
  -- a put leaves the left numbers of the others
  left_kept : (j : ℕ) → (j ≢ i) → (groups_line (groups_with g i)).left j ≡ (groups_line g).left j
  left_kept j n = grind (arith, nat_tests)

  -- a free stream is a newcomer
  free_newcomer : Apart g → Free (groups_line g) i → Newcomer g.size (waiting g) i
  free_newcomer a f = record { low = f.within.0; high = f.within.1; new = sym (groups_waits g a i) ∙ ap (nat_lt 0) f.idle }

module _ (g : Groups) (i : ℕ) (w : Newcomer g.size (waiting g) i) where
  -- a newcomer is in neither group
  newcomer_absent : (g.closed i ≡ false) × (g.gathered i ≡ false)
  newcomer_absent = (grind (arith, nat_tests), grind (arith, nat_tests))

  -- so it is free
  newcomer_free : Free (groups_line g) i
  newcomer_free = record { within = (w.low, w.high); idle = grind (arith, nat_tests) }

  -- and joins those that wait
  joins : Joined (groups_line g) i (groups_line (groups_with g i))
  joins = record {
    shape = record { size = refl; turns = λ j. refl };
    waits = grind (arith, nat_tests);
    near = grind (arith, nat_tests, count_lacks g.closed g.size i);
    stays = λ j n h. omega (arith, left_kept g i j n);
    rises_not = λ j n. omega (arith, left_kept g i j n);
  }

-- a put does what a put at a line must
pub groups_putting : (g : Groups) (i : ℕ) (r : Bool) (g' : Groups) → Apart g → GroupsPut g i r g' → LinePut (groups_line g) i r (groups_line g')
groups_putting g i true g' a p = (newcomer_free g i p.0, subst (λ h. Joined (groups_line g) i (groups_line h)) (sym p.1) (joins g i p.0))
groups_putting g i false g' a p = (λ f. p.0 (free_newcomer g i a f), ap groups_line p.1)

-- the lowest of the closed group is given
module _ (g : Groups) (i : ℕ) (a : Apart g) (low : Lowest g.closed i) where
  -- the closed group has one member less
  fewer : (j : ℕ) → i ≤ j → count (without g.closed i) j + 1 ≡ count g.closed j
  fewer j le = count_without g.closed i j (a.closed i low.member).0 le low.member

  -- every other one that waits goes on, closer
  closed_goes_on : (j : ℕ) → (j ≢ i) → Waits (groups_line g) j → Waits (groups_line (groups_past g i)) j × ((groups_line (groups_past g i)).left j < (groups_line g).left j)
  closed_goes_on j n h = (
    grind (arith, nat_tests, count_member (without g.closed i) j),
    grind (arith, nat_tests, fewer j, fewer g.size),
  )

  -- so the line moves as a take must
  gives_closed : Given (groups_line g) i (groups_line (groups_past g i))
  gives_closed = record {
    shape = record { size = refl; turns = λ j. refl };
    waited = grind (arith, nat_tests, count_member g.closed i);
    gone = grind (arith, nat_tests);
    stays = λ j n h. (closed_goes_on j n h).0;
    closer = λ j n h. (closed_goes_on j n h).1;
    starts_not = λ j z. grind (arith, nat_tests, count_member g.closed j);
  }

-- nobody is in the closed group, and the lowest of the open one is given
module _ (g : Groups) (i : ℕ) (a : Apart g) (none : Empty g.closed) (low : Lowest g.gathered i) where
  -- every other one that waits goes on, closer
  open_goes_on : (j : ℕ) → (j ≢ i) → Waits (groups_line g) j → Waits (groups_line (groups_turned g i)) j × ((groups_line (groups_turned g i)).left j < (groups_line g).left j)
  open_goes_on j n h = (
    grind (arith, nat_tests, count_member (without g.gathered i) j),
    grind (arith, nat_tests, count_lacks (without g.gathered i) j i),
  )

  -- so the line moves as a take must
  gives_open : Given (groups_line g) i (groups_line (groups_turned g i))
  gives_open = record {
    shape = record { size = refl; turns = λ j. refl };
    waited = grind (arith, nat_tests);
    gone = grind (arith, nat_tests);
    stays = λ j n h. (open_goes_on j n h).0;
    closer = λ j n h. (open_goes_on j n h).1;
    starts_not = λ j z. grind (arith, nat_tests);
  }

-- both ways, for the queue as it is left
gives : (g : Groups) (i : ℕ) (g' : Groups) → Apart g → Gives g i g' → Given (groups_line g) i (groups_line g')
gives g i g' a (of_closed low e) = subst (λ h. Given (groups_line g) i (groups_line h)) (sym e) (gives_closed g i a low)
gives g i g' a (of_gathered none low e) = subst (λ h. Given (groups_line g) i (groups_line h)) (sym e) (gives_open g i a none low)

-- a take does what a take at a line must
pub groups_taking : (g : Groups) (r : Option ℕ) (g' : Groups) → Apart g → GroupsTake g r g' → LineTake (groups_line g) r (groups_line g')
groups_taking g None g' a t = (λ i. grind (arith, nat_tests), ap groups_line t.1)
groups_taking g (Some i) g' a t = gives g i g' a t
