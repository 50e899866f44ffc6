-- Every sequence of rounds (document 01, "The sender and its rounds"), as a list of calls: so that nothing is left out of the legal lists.
use Rattle.std.specs.Prelude.{ℕ, Bool, true, false, cond, ◌&&◌, List, [], ◌∷◌, ◌++◌, ◌≡◌, replicate}
use Rattle.round_rules.specs.Legal.{between, Legal}
use Rattle.round_rules.specs.declared.Fate.{Fate}
use Rattle.round_rules.specs.declared.Fate.TheVariants.{Delivered, RequestLost, AnswerLost, Twice}
use Rattle.round_rules.specs.declared.Round.{Round}
use Rattle.round_rules.specs.Requester.{shared, Requester}
use Rattle.round_rules.specs.World.{World, runs_on, Call, works, asks, arrives, hears, does, run}

-- "A round is the unit's work step, done or not, then one exchange: delivered, request lost, answer lost, or request arriving twice with
-- the second answer delivered." "A good round has the work step done and ends delivered or twice."
abbrev pub comes_back : Fate → Bool
comes_back Delivered = true
comes_back RequestLost = false
comes_back AnswerLost = false
comes_back Twice = true

unfoldable pub is_good : Round → Bool
is_good r = r.worked && comes_back r.fate

unfoldable pub goods : List Round → List Bool
goods [] = []
goods (r ∷ rs) = is_good r ∷ goods rs

-- An output that every request and every answer fits.
abbrev pub output : List ℕ
output = replicate 522 0

module _ {S : Type 0} (a : Requester S) where
  -- The calls of an exchange, once the request is written.
  unfoldable pub exchange : World S → Fate → List Call
  exchange w Delivered = arrives w.request shared output ∷ hears shared (does a w (arrives w.request shared output)).answer ∷ []
  exchange w RequestLost = hears shared [] ∷ []
  exchange w AnswerLost = arrives w.request shared output ∷ hears shared [] ∷ []
  exchange w Twice =
      let arrival = arrives w.request shared output in
      arrival ∷ arrival ∷ hears shared (does a (does a w arrival) arrival).answer ∷ []

  -- The request in front of it. "Finished or given up, it sends nothing more: its rounds are over."
  unfoldable pub requested : World S → Fate → List Call
  requested w f = asks shared output ∷ cond (runs_on a w) (exchange (does a w (asks shared output)) f) []

  -- The calls of a round.
  unfoldable pub round_calls : World S → Round → List Call
  round_calls w r = cond r.worked (works shared ∷ requested (does a w (works shared)) r.fate) (requested w r.fate)

  -- The calls of rounds one after the other.
  unfoldable pub scheduled : World S → List Round → List Call
  scheduled w [] = []
  scheduled w (r ∷ rs) = round_calls w r ++ scheduled (run a w (round_calls w r)) rs

  -- Every sequence of rounds gives a legal list: its calls, one round after the other. Its rounds are those of the sequence, all of them or those
  -- up to the requester's end; after it there are its calls and work steps alone.
  pub record Realised (w : World S) (rs : List Round) : Type 0 where
    pub rounds : List Bool
    pub later : List Bool
    pub legal : Legal a w between (scheduled w rs) rounds
    pub same : goods rs ≡ rounds ++ later
    pub over : runs_on a (run a w (scheduled w rs)) ≡ true → later ≡ []
