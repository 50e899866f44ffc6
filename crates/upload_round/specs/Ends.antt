-- What the parts of a round are promised to leave (document 01, "The sender and its rounds").
use Rattle.std.specs.Prelude.{ℕ, ◌≤◌, Bool, true, false, List, [], ◌≡◌, length, take, None, Option, Some, Err, Ok, Result}
use Rattle.message_rules.specs.Answer.{verdict_result}
use Rattle.message_rules.specs.declared.Refusal.{Refusal}
use Rattle.device_rules.specs.declared.Device.{Device}
use Rattle.device_rules.specs.declared.Received.{Received}
use Rattle.round_rules.specs.Rounds.{nothing_sent, made, first_refusal}
use Rattle.round_rules.specs.Schedule.{exchange, requested}
use Rattle.round_rules.specs.World.{World, Call, requester_or, answer_check}
use Rattle.round_rules.specs.declared.Fate.{Fate}
use Rattle.sender_rules.specs.Hearing.{hear}
use Rattle.sender_rules.specs.Sending.{sending}
use Rattle.sender_rules.specs.declared.Sender.{Sender}
use Rattle.upload_round.specs.declared.Rounded.{Rounded}

-- Unit, store and sender, with a request that the sender has written.
abbrev pub asking : Device → List ℕ → Sender → List ℕ → World Sender
asking d store s b = record { device = d; store = store; requester = s; request = b; answer = [] }

-- What is left, `left` being the store, is what the calls make, and the refusal is the first of theirs.
pub record Ends (r : Rounded) (left file : List ℕ) (w : World Sender) (h : List Call) : Type 0 where
  pub refusal : verdict_result r.verdict ≡ first_refusal (sending file) w h
  pub device : r.device ≡ (made (sending file) w h).device
  pub sender : r.sender ≡ (made (sending file) w h).requester
  pub store : left ≡ (made (sending file) w h).store

-- After the sender's request and its exchange,
abbrev pub Requested : Rounded → Device → Sender → Fate → List ℕ → List ℕ → Type 0
Requested r d s f file store = let w = nothing_sent d store s in Ends r store file w (requested (sending file) w f)

-- and after the exchange of a request that is written.
abbrev pub Exchanged : Rounded → Device → Sender → Fate → List ℕ → List ℕ → List ℕ → Type 0
Exchanged r d s f file store request = let w = asking d store s request in Ends r store file w (exchange (sending file) w f)

-- After the sender's answer call,
pub record Heard (r : Rounded) (d : Device) (s : Sender) (file answer : List ℕ) : Type 0 where
  pub refusal : verdict_result r.verdict ≡ answer_check (hear s file answer)
  pub device : r.device ≡ d
  pub sender : r.sender ≡ requester_or s (hear s file answer)

-- and after a call that was refused.
pub record Stopped (r : Rounded) (d : Device) (s : Sender) (f : Refusal) : Type 0 where
  pub device : r.device ≡ d
  pub sender : r.sender ≡ s
  pub verdict : r.verdict ≡ Err f

-- After the arrivals of a request, `left` being what the answer's array holds then. Whoever goes on as the outcome says has made the exchange of this fate: the
-- sender hears the answer at the array's start, or no bytes where none comes back, or the round ends where the call was refused.
pub record Arrived (r : Received) (left : List ℕ) (d : Device) (f : Fate) (store request : List ℕ) : Type 0 where
  pub answer : (n : ℕ) → r.outcome ≡ Ok (Some n) → n ≤ length left
  pub heard : (n : ℕ) → r.outcome ≡ Ok (Some n) → (z : Rounded) (s : Sender) (file : List ℕ) → Heard z r.device s file (take n left) → Exchanged z d s f file store request
  pub silent : r.outcome ≡ Ok None → (z : Rounded) (s : Sender) (file : List ℕ) → Heard z r.device s file [] → Exchanged z d s f file store request
  pub refused : (g : Refusal) → r.outcome ≡ Err g → (z : Rounded) (s : Sender) (file : List ℕ) → Stopped z r.device s g → Exchanged z d s f file store request

-- An outcome whose answer is lost: nobody hears it, and a refusal stays one.
unfoldable pub unheard : Result (Option ℕ) Refusal → Result (Option ℕ) Refusal
unheard (Ok (Some n)) = Ok None
unheard (Ok None) = Ok None
unheard (Err f) = Err f

-- Whether an arrival was refused.
unfoldable pub is_refused : Result (Option ℕ) Refusal → Bool
is_refused (Ok (Some n)) = false
is_refused (Ok None) = false
is_refused (Err f) = true
