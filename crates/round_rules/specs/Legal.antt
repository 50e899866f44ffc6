-- The lists of calls that demand 3 speaks of (document 01, "The sender and its rounds"): rounds, refused calls between any two others, and work
-- steps and calls of the requester after the end.
use Rattle.std.specs.Prelude.{ℕ, Bool, true, false, List, [], ◌∷◌, ◌++◌, ◌≡◌}
use Rattle.round_rules.specs.Requester.{Lent, shared, Requester}
use Rattle.round_rules.specs.World.{World, runs_on, Call, works, asks, arrives, hears, does, is_refused}

-- Where in a round a list is; each place says whether the round's work step was done.
pub data Place : Type 0 where
  -- Before the request.
  begun : Bool → Place
  -- The requester has written its request.
  asked : Bool → Place
  -- The request has arrived at the unit.
  arrived : Bool → Place
  -- It has arrived twice.
  repeated : Bool → Place

abbrev pub between : Place
between = begun false

-- A list of calls from a world and a place on, and its rounds, each with whether it is good: "a good round has the work step done and ends
-- delivered or twice". A list may stop anywhere.
pub data Legal {S : Type 0} (a : Requester S) : World S → Place → List Call → List Bool → Type 0 where
  stops : {w : World S} {p : Place} → Legal a w p [] []
  -- "Refused calls, whatever store, file or output each is lent, may stand between any two others."
  refuses : {w : World S} {p : Place} {c : Call} {h : List Call} {rs : List Bool}
      → is_refused a w c ≡ true → Legal a (does a w c) p h rs → Legal a w p (c ∷ h) rs
  -- "None of these calls is a round": one that a refused call broke off goes on where it was, or it is begun anew. Any round may be.
  begun_anew : {w : World S} {p : Place} {h : List Call} {rs : List Bool} → runs_on a w ≡ true → Legal a w between h rs → Legal a w p h rs
  -- "A round is the unit's work step, done or not,
  work_done : {w : World S} {h : List Call} {rs : List Bool} → runs_on a w ≡ true
      → is_refused a w (works shared) ≡ false → Legal a (does a w (works shared)) (begun true) h rs → Legal a w between (works shared ∷ h) rs
  -- then one exchange":
  request_made : {w : World S} {d : Bool} {out : List ℕ} {h : List Call} {rs : List Bool} → runs_on a w ≡ true
      → is_refused a w (asks shared out) ≡ false → Legal a (does a w (asks shared out)) (asked d) h rs → Legal a w (begun d) (asks shared out ∷ h) rs
  request_arrives : {w : World S} {d : Bool} {out : List ℕ} {h : List Call} {rs : List Bool}
      → is_refused a w (arrives w.request shared out) ≡ false → Legal a (does a w (arrives w.request shared out)) (arrived d) h rs
      → Legal a w (asked d) (arrives w.request shared out ∷ h) rs
  request_repeats : {w : World S} {d : Bool} {out : List ℕ} {h : List Call} {rs : List Bool}
      → is_refused a w (arrives w.request shared out) ≡ false → Legal a (does a w (arrives w.request shared out)) (repeated d) h rs
      → Legal a w (arrived d) (arrives w.request shared out ∷ h) rs
  -- "delivered,
  delivered : {w : World S} {d : Bool} {h : List Call} {rs : List Bool}
      → is_refused a w (hears shared w.answer) ≡ false → Legal a (does a w (hears shared w.answer)) between h rs
      → Legal a w (arrived d) (hears shared w.answer ∷ h) (d ∷ rs)
  -- request lost,
  request_lost : {w : World S} {d : Bool} {h : List Call} {rs : List Bool}
      → is_refused a w (hears shared []) ≡ false → Legal a (does a w (hears shared [])) between h rs
      → Legal a w (asked d) (hears shared [] ∷ h) (false ∷ rs)
  -- answer lost,
  answer_lost : {w : World S} {d : Bool} {h : List Call} {rs : List Bool}
      → is_refused a w (hears shared []) ≡ false → Legal a (does a w (hears shared [])) between h rs
      → Legal a w (arrived d) (hears shared [] ∷ h) (false ∷ rs)
  -- or request arriving twice with the second answer delivered."
  twice : {w : World S} {d : Bool} {h : List Call} {rs : List Bool}
      → is_refused a w (hears shared w.answer) ≡ false → Legal a (does a w (hears shared w.answer)) between h rs
      → Legal a w (repeated d) (hears shared w.answer ∷ h) (d ∷ rs)
  -- "And work steps and sender calls after the end."
  ended_works : {w : World S} {h : List Call} {rs : List Bool} → runs_on a w ≡ false
      → is_refused a w (works shared) ≡ false → Legal a (does a w (works shared)) between h rs → Legal a w between (works shared ∷ h) rs
  ended_asks : {w : World S} {l : Lent} {out : List ℕ} {h : List Call} {rs : List Bool} → runs_on a w ≡ false
      → Legal a (does a w (asks l out)) between h rs → Legal a w between (asks l out ∷ h) rs
  ended_hears : {w : World S} {l : Lent} {b : List ℕ} {h : List Call} {rs : List Bool} → runs_on a w ≡ false
      → Legal a (does a w (hears l b)) between h rs → Legal a w between (hears l b ∷ h) rs

-- A beginning of a list: it is legal, and its rounds are the first ones of the list.
pub record Beginning {S : Type 0} (a : Requester S) (w : World S) (p : Place) (rounds : List Bool) (past : List Call) : Type 0 where
  pub first : List Bool
  pub later : List Bool
  pub same : rounds ≡ first ++ later
  pub legal : Legal a w p past first

-- So what is shown of every legal list holds after every call of it.
abbrev pub EveryBeginning : Type 1
EveryBeginning =
    (S : Type 0) (a : Requester S) (w : World S) (p : Place) (past rest : List Call) (rounds : List Bool) → Legal a w p (past ++ rest) rounds → Beginning a w p rounds past
