-- The side that asks the unit, as far as whole runs need to know it (document 01, "The sender and its rounds"). The sender of an upload is one.
use Rattle.std.specs.Prelude.{ℕ, Bool, true, false, List, Option}
use Rattle.message_rules.specs.Answer.{Answer}
use Rattle.link_rules.specs.declared.Link.{Link}
use Rattle.round_rules.specs.declared.State.{State}
use Rattle.round_rules.specs.declared.State.TheVariants.{Running, Finished, GivenUp}

abbrev pub is_running : State → Bool
is_running Running = true
is_running Finished = false
is_running GivenUp = false

-- A request, or nothing: "finished or given up, it sends nothing more".
pub data Sent : Type 0 where
  sent : Sent
  nothing : Sent

-- The store or the file that a call is lent: the one that the calls share, or some other.
pub data Lent : Type 0 where
  shared : Lent
  other : List ℕ → Lent

unfoldable pub lent : Lent → List ℕ → List ℕ
lent shared s = s
lent (other t) s = t

-- The shared one afterwards: what the call left of it, if it was lent that one.
unfoldable pub kept : Lent → List ℕ → List ℕ → List ℕ
kept shared left s = left
kept (other t) left s = s

-- What a requester is started with.
pub record Starting : Type 0 where
  pub link : Link
  pub source : ℕ
  pub destination : ℕ
  pub size : ℕ
  pub job : Option ℕ

-- Its rules, over its state: starting it, its request, its answer call with the answer's bytes, [] for none, and whether it runs, has finished
-- or has given up.
pub record Requester (S : Type 0) : Type 0 where
  pub start : Starting → Answer S Unit
  pub ask : S → Lent → Answer Sent (List ℕ)
  pub hear : S → Lent → List ℕ → Answer S Unit
  pub outcome : S → State
