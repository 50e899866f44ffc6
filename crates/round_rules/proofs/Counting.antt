-- Counts of rounds: carried by induction on the rounds, and by arithmetic.
use Prim.Native.Nat.{ℕ, ◌+◌, ◌*◌, ◌≤◌, ◌<◌}
use mathlib.Core.Bool.{Bool, true, false}
use mathlib.Core.List.{List, [], ◌∷◌, ◌++◌, append_assoc, append-nil}
use mathlib.Core.Path.{◌≡◌, refl, sym}
use native.Mathlib.Omega.{arith}
use lib.ListN.{length, length-append}
use Rattle.round_rules.specs.Good.{good_rounds, NoFiftyWithout, Bounded}
use Rattle.round_rules.specs.declared.State.{State}
use Rattle.round_rules.specs.declared.State.TheVariants.{Running, Finished, GivenUp}

pub good_append : (a b : List Bool) → good_rounds (a ++ b) ≡ good_rounds a + good_rounds b
unfolding good_rounds
good_append [] b = omega arith
good_append (true ∷ a) b = omega (arith, good_append a b)
good_append (false ∷ a) b = good_append a b

module _ (past : List Bool) where
  pub good_round : good_rounds (past ++ (true ∷ [])) ≡ good_rounds past + 1
  unfolding good_rounds
  good_round = good_append past (true ∷ [])

  pub bad-round : good_rounds (past ++ (false ∷ [])) ≡ good_rounds past
  unfolding good_rounds
  bad-round = omega (arith, good_append past (false ∷ []))

  pub length-round : (r : Bool) → length (past ++ (r ∷ [])) ≡ length past + 1
  length-round r = length-append past (r ∷ [])

-- The last n rounds have no good one.
pub record NoneGood (past : List Bool) (n : ℕ) : Type 0 where
  pub before : List Bool
  pub tail : List Bool
  pub whole : past ≡ before ++ tail
  pub size : length tail ≡ n
  pub none : good_rounds tail ≡ 0

pub none_good_yet : (past : List Bool) → NoneGood past 0
unfolding good_rounds
none_good_yet past = record { before = past; tail = []; whole = sym (append-nil past); size = refl; none = refl }

pub none_good_more : {past : List Bool} {n : ℕ} → NoneGood past n → NoneGood (past ++ (false ∷ [])) (n + 1)
none_good_more l =
    record {
      before = l.before;
      tail = l.tail ++ (false ∷ []);
      whole = rw (l.whole, append_assoc);
      size = rw (length-round l.tail false, l.size);
      none = rw (bad-round l.tail, l.none);
    }

-- A good round that some rounds reach over is one of them.
hits : (a b before fifty after : List Bool) → a ++ (true ∷ b) ≡ before ++ (fifty ++ after) → length before ≤ length a → length a < length before + length fifty
    → 1 ≤ good_rounds fifty
unfolding good_rounds
hits a b [] [] after e low high = absurd (omega arith)
hits [] b (x ∷ before) fifty after e low high = absurd (omega arith)
hits (y ∷ a) b (x ∷ before) fifty after e low high =
    let rest : a ++ (true ∷ b) ≡ before ++ (fifty ++ after) = cc in
    hits a b before fifty after rest (omega arith) (omega arith)
hits [] b [] (true ∷ fifty) after e low high = omega arith
hits [] b [] (false ∷ fifty) after e low high = absurd (let z : ◌≡◌ {A = ℕ} 0 1 = cc in omega arith)
hits (y ∷ a) b [] (x ∷ fifty) after e low high =
    let rest : a ++ (true ∷ b) ≡ fifty ++ after = cc in
    let more = hits a b [] fifty after rest (omega arith) (omega arith) in
    omega (arith, more, good_append (x ∷ []) fifty)

-- One good round in fifty is enough: forty-nine in a row may lack one, before it and after it.
pub one_in_fifty : (a b : List Bool) → length a ≤ 49 → length b ≤ 49 → NoFiftyWithout (a ++ (true ∷ b))
one_in_fifty a b few more before fifty after e size =
    let all : length a + length (true ∷ b) ≡ length before + (length fifty + length after) =
    rw (← length-append fifty after, ← length-append before (fifty ++ after), ← e) (sym (length-append a (true ∷ b))) in
    hits a b before fifty after e (omega (arith, all, size, more)) (omega (arith, size, few))

-- Fifty rounds without a good one is what NoFiftyWithout excludes.
pub fifty_without : (past rest : List Bool) → NoneGood past 50 → NoFiftyWithout (past ++ rest) → ⊥
fifty_without past rest l good =
    omega (arith, good l.before l.tail rest (rw (l.whole, append_assoc)) (omega (arith, l.size)))

-- What the rounds so far have come to, after so many steps forward and rounds since the last.
pub record Tally (steps since : ℕ) (past : List Bool) : Type 0 where
  pub few : since < 50
  pub none_good : NoneGood past since
  pub rounds : length past ≤ 50 * steps + since
  pub good : good_rounds past ≤ steps

pub tally-begins : Tally 0 0 []
unfolding good_rounds
tally-begins = record { few = omega arith; none_good = none_good_yet []; rounds = omega arith; good = omega arith }

module _ {steps since : ℕ} {past : List Bool} (c : Tally steps since past) where
  -- A round more without a step, the fiftieth such round,
  pub tally_waits : since + 1 < 50 → Tally steps (since + 1) (past ++ (false ∷ []))
  tally_waits h =
      record {
        few = h;
        none_good = none_good_more c.none_good;
        rounds = rw (length-round past false) (omega (arith, c.rounds));
        good = rw (bad-round past) c.good;
      }

  pub tally-over : 50 ≤ since + 1 → NoneGood (past ++ (false ∷ [])) 50
  tally-over h =
      let fifty : since + 1 ≡ 50 = omega (arith, h, c.few) in
      rw (← fifty) (none_good_more c.none_good)

  -- and a step.
  good_most : (r : Bool) → good_rounds (past ++ (r ∷ [])) ≤ good_rounds past + 1
  good_most true = omega (arith, good_round past)
  good_most false = omega (arith, bad-round past)

  pub tally-steps : (r : Bool) → Tally (steps + 1) 0 (past ++ (r ∷ []))
  tally-steps r =
      record {
        few = omega arith;
        none_good = none_good_yet (past ++ (r ∷ []));
        rounds = rw (length-round past r) (omega (arith, c.rounds, c.few));
        good = omega (arith, good_most r, c.good);
      }

-- Where a requester with so many steps in all stands after these rounds.
pub data Position (steps : ℕ) (past : List Bool) : State → Type 0 where
  still_runs : (n since : ℕ) → Tally n since past → n < steps → Position steps past Running
  gave_up : NoneGood past 50 → Position steps past GivenUp
  finished : Position steps past Finished

pub bounded : (steps : ℕ) (past : List Bool) (o : State) → Position steps past o → Bounded steps past o
bounded steps past Running (still_runs n since c h) =
    record {
      ended = λ most. absurd (omega (arith, c.rounds, c.few, h, most));
      persists = λ none e. absurd (let z : ◌≡◌ {A = ℕ} 0 1 = cc in omega arith);
      finishes = λ none most. absurd (omega (arith, c.good, h, most));
    }
bounded steps past GivenUp (gave_up h) =
    record {
      ended = λ most. refl;
      persists = λ none e. fifty_without past [] h (rw append-nil none);
      finishes = λ none most. absurd (fifty_without past [] h (rw append-nil none));
    }
bounded steps past Finished finished =
    record {
      ended = λ most. refl;
      persists = λ none e. absurd (let z : ◌≡◌ {A = ℕ} 0 1 = cc in omega arith);
      finishes = λ none most. refl;
    }
