-- What a requester has to show call by call, and what follows for whole lists: every legal list keeps its invariant, by induction over the list.
use Prim.Native.Nat.{ℕ}
use mathlib.Core.Bool.{Bool, true, false, cond}
use mathlib.Core.List.{List, [], ◌∷◌, ◌++◌, append-nil, append_assoc}
use mathlib.Core.Path.{◌≡◌}
use native.Mathlib.Omega.{arith}
use Rattle.message_rules.specs.Answer.{given}
use Rattle.device_rules.specs.declared.Device.{Device}
use Rattle.round_rules.specs.Requester.{is_running, nothing, Lent, shared, Requester}
use Rattle.round_rules.specs.Legal.{Place, begun, asked, arrived, repeated, between, Legal, stops, refuses, begun_anew, work_done, request_made, request_arrives, request_repeats, delivered, request_lost, answer_lost, twice, ended_works, ended_asks, ended_hears}
use Rattle.round_rules.specs.Schedule.{output}
use Rattle.round_rules.specs.World.{World, Call, works, asks, arrives, hears, makes, starts, requester_or, runs_on, does, run, is_refused, answer_check, is_failed, call_check, told}
use Rattle.round_rules.proofs.Refused.{refused-leaves}

-- The requester runs, or has ended, and then no round is under way.
pub data Either (R : Place → Type 0) (E : Type 0) : Place → Type 0 where
  runs : {p : Place} → R p → Either R E p
  ended : E → Either R E between

-- The shape of an invariant. Beside the world it has the rounds so far, and a note that unrefused work steps and arrivals go into.
pub record Shape (S : Type 0) : Type 1 where
  pub Note : Type 0
  pub note_work : Note → Note
  pub note_arrival : World S → List ℕ → Note → Note
  pub Running : World S → List Bool → Note → Place → Type 0
  pub Ended : Device → List ℕ → S → List Bool → Note → Type 0

-- It holds from call to call.
pub record Steady {S : Type 0} (a : Requester S) (k : Shape S) : Type 0 where
  pub goes_on : (w : World S) (past : List Bool) (n : k.Note) (p : Place) → k.Running w past n p → runs_on a w ≡ true
  pub is_over : (w : World S) (past : List Bool) (n : k.Note) → k.Ended w.device w.store w.requester past n → runs_on a w ≡ false
  -- A round begun anew, the calls of a round,
  pub anew : (w : World S) (past : List Bool) (n : k.Note) (p : Place) → k.Running w past n p → k.Running w past n between
  pub works_one : (w : World S) (past : List Bool) (n : k.Note) → is_refused a w (works shared) ≡ false
      → k.Running w past n between → k.Running (does a w (works shared)) past (k.note_work n) (begun true)
  pub asks_one : (w : World S) (past : List Bool) (n : k.Note) (d : Bool) (out : List ℕ) → is_refused a w (asks shared out) ≡ false
      → k.Running w past n (begun d) → k.Running (does a w (asks shared out)) past n (asked d)
  pub arrives_once : (w : World S) (past : List Bool) (n : k.Note) (d : Bool) (out : List ℕ) → is_refused a w (arrives w.request shared out) ≡ false
      → k.Running w past n (asked d) → k.Running (does a w (arrives w.request shared out)) past (k.note_arrival w w.request n) (arrived d)
  pub arrives_again : (w : World S) (past : List Bool) (n : k.Note) (d : Bool) (out : List ℕ) → is_refused a w (arrives w.request shared out) ≡ false
      → k.Running w past n (arrived d) → k.Running (does a w (arrives w.request shared out)) past (k.note_arrival w w.request n) (repeated d)
  pub hears_nothing : (w : World S) (past : List Bool) (n : k.Note) (p : Place) → is_refused a w (hears shared []) ≡ false → k.Running w past n p
      → let v = does a w (hears shared []) in
      Either (k.Running v (past ++ (false ∷ [])) n) (k.Ended v.device v.store v.requester (past ++ (false ∷ [])) n) between
  pub hears_once : (w : World S) (past : List Bool) (n : k.Note) (d : Bool) → is_refused a w (hears shared w.answer) ≡ false → k.Running w past n (arrived d)
      → let v = does a w (hears shared w.answer) in
      Either (k.Running v (past ++ (d ∷ [])) n) (k.Ended v.device v.store v.requester (past ++ (d ∷ [])) n) between
  pub hears_second : (w : World S) (past : List Bool) (n : k.Note) (d : Bool) → is_refused a w (hears shared w.answer) ≡ false → k.Running w past n (repeated d)
      → let v = does a w (hears shared w.answer) in
      Either (k.Running v (past ++ (d ∷ [])) n) (k.Ended v.device v.store v.requester (past ++ (d ∷ [])) n) between
  -- and those after the end.
  pub works_on : (w : World S) (past : List Bool) (n : k.Note) → is_refused a w (works shared) ≡ false → k.Ended w.device w.store w.requester past n
      → let v = does a w (works shared) in k.Ended v.device v.store w.requester past (k.note_work n)
  pub asks_no_more : (s : S) (l : Lent) → is_running (a.outcome s) ≡ false → a.ask s l ≡ given nothing []
  pub hears_no_more : (s : S) (l : Lent) (b : List ℕ) → is_running (a.outcome s) ≡ false → a.hear s l b ≡ given s tt

one_more_lem : (past : List Bool) (r : Bool) (rs : List Bool) → (past ++ (r ∷ [])) ++ rs ≡ past ++ (r ∷ rs)
one_more_lem past r rs = rw append_assoc

pub clash : {P : Type 0} (b : Bool) → b ≡ true → b ≡ false → P
clash true e f = absurd (let z : ◌≡◌ {A = ℕ} 0 1 = cc in omega arith)
clash false e f = absurd (let z : ◌≡◌ {A = ℕ} 0 1 = cc in omega arith)

module _ {S : Type 0} (k : Shape S) where
  abbrev pub HasEnded : World S → List Bool → k.Note → Type 0
  HasEnded w past n = k.Ended w.device w.store w.requester past n

  abbrev pub Invariant : World S → List Bool → k.Note → Place → Type 0
  Invariant w past n p = Either (k.Running w past n) (HasEnded w past n) p

module _ {S : Type 0} (a : Requester S) (k : Shape S) where
  -- The note after a call.
  unfoldable pub note : World S → Call → k.Note → k.Note
  note w (works l) n = k.note_work n
  note w (asks l out) n = n
  note w (arrives b l out) n = k.note_arrival w b n
  note w (hears l b) n = n
  note w (makes l own) n = n
  note w (starts s) n = n

  unfoldable pub noted : World S → Call → k.Note → k.Note
  noted w c n = cond (is_refused a w c) n (note w c n)

  -- No call of a round is refused, with an output that every message fits.
  pub record Free : Type 0 where
    pub works_free : (w : World S) (past : List Bool) (n : k.Note) (p : Place) → k.Running w past n p → is_refused a w (works shared) ≡ false
    pub asks_free : (w : World S) (past : List Bool) (n : k.Note) (p : Place) → k.Running w past n p → is_refused a w (asks shared output) ≡ false
    pub once_free : (w : World S) (past : List Bool) (n : k.Note) (d : Bool) → k.Running w past n (asked d) → is_refused a w (arrives w.request shared output) ≡ false
    pub again_free : (w : World S) (past : List Bool) (n : k.Note) (d : Bool) → k.Running w past n (arrived d) → is_refused a w (arrives w.request shared output) ≡ false
    pub hears_free : (w : World S) (past : List Bool) (n : k.Note) (p : Place) (b : List ℕ) → k.Running w past n p → is_refused a w (hears shared b) ≡ false
    pub works_on_free : (w : World S) (past : List Bool) (n : k.Note) → HasEnded k w past n → is_refused a w (works shared) ≡ false

module _ {S : Type 0} {a : Requester S} {k : Shape S} (st : Steady a k) where
  module _ (w : World S) (past : List Bool) (n : k.Note) where
    noted_refused : (c : Call) → is_refused a w c ≡ true → noted a k w c n ≡ n
    unfolding noted
    noted_refused c e = rw e

    noted_done : (c : Call) → is_refused a w c ≡ false → noted a k w c n ≡ note a k w c n
    unfolding noted
    noted_done c e = rw e

    keeps_refused : (p : Place) (c : Call) → is_refused a w c ≡ true → Invariant k w past n p → Invariant k (does a w c) past (noted a k w c n) p
    keeps_refused p c e h = rw (refused-leaves a w c e, noted_refused c e) h

    pub running : (p : Place) → runs_on a w ≡ true → Invariant k w past n p → k.Running w past n p
    running p e (runs h) = h
    running p e (ended h) = clash (runs_on a w) e (st.is_over w past n h)

    pub over : runs_on a w ≡ false → Invariant k w past n between → HasEnded k w past n
    over e (runs h) = clash (runs_on a w) (st.goes_on w past n between h) e
    over e (ended h) = h

    -- After the end the requester's calls change nothing that counts.
    ended_hears_lem : (l : Lent) (b : List ℕ) → runs_on a w ≡ false → HasEnded k w past n → HasEnded k (does a w (hears l b)) past (noted a k w (hears l b) n)
    unfolding does requester_or noted note is_refused call_check answer_check is_failed
    ended_hears_lem l b e h = rw (st.hears_no_more w.requester l b e) h

    ended_asks_lem : (l : Lent) (out : List ℕ) → HasEnded k w past n → HasEnded k (does a w (asks l out)) past (noted a k w (asks l out) n)
    unfolding does noted note
    ended_asks_lem l out h = by (is_refused a w (asks l out))
      where
        by : (t : Bool) → HasEnded k w past (cond t n n)
        by true = h
        by false = h

    ended_works_lem : is_refused a w (works shared) ≡ false → HasEnded k w past n → HasEnded k (does a w (works shared)) past (noted a k w (works shared) n)
    unfolding note does
    ended_works_lem e h = rw (noted_done (works shared) e) (st.works_on w past n e h)

    -- A call of a round, with its note.
    keeps_work : is_refused a w (works shared) ≡ false → k.Running w past n between → k.Running (does a w (works shared)) past (noted a k w (works shared) n) (begun true)
    unfolding note
    keeps_work e h = rw (noted_done (works shared) e) (st.works_one w past n e h)

    keeps_ask : (d : Bool) (out : List ℕ) → is_refused a w (asks shared out) ≡ false → k.Running w past n (begun d) → k.Running (does a w (asks shared out)) past (noted a k w (asks shared out) n) (asked d)
    unfolding note
    keeps_ask d out e h = rw (noted_done (asks shared out) e) (st.asks_one w past n d out e h)

    keeps_once : (d : Bool) (out : List ℕ) → let c = arrives w.request shared out in is_refused a w c ≡ false → k.Running w past n (asked d) → k.Running (does a w c) past (noted a k w c n) (arrived d)
    unfolding note
    keeps_once d out e h = rw (noted_done (arrives w.request shared out) e) (st.arrives_once w past n d out e h)

    keeps_again : (d : Bool) (out : List ℕ) → let c = arrives w.request shared out in is_refused a w c ≡ false → k.Running w past n (arrived d) → k.Running (does a w c) past (noted a k w c n) (repeated d)
    unfolding note
    keeps_again d out e h = rw (noted_done (arrives w.request shared out) e) (st.arrives_again w past n d out e h)

    -- What is heard is not noted.
    heard : (b : List ℕ) (r : Bool) → is_refused a w (hears shared b) ≡ false → Invariant k (does a w (hears shared b)) (past ++ (r ∷ [])) n between
        → Invariant k (does a w (hears shared b)) (past ++ (r ∷ [])) (noted a k w (hears shared b) n) between
    unfolding note
    heard b r e h = rw (noted_done (hears shared b) e) h

  -- A legal list keeps the invariant.
  pub keeps : {w : World S} {p : Place} {h : List Call} {rounds : List Bool} → Legal a w p h rounds → (past : List Bool) (n : k.Note) → Invariant k w past n p
      → (p' : Place) × Invariant k (run a w h) (past ++ rounds) (told a (note a k) w h n) p'
  unfolding run told noted
  keeps {p = p} stops past n h = (p, rw append-nil h)
  keeps (refuses {w = w} {p = p} {c = c} e r) past n h = keeps r past _ (keeps_refused w past n p c e h)
  keeps (begun_anew {w = w} {p = p} g r) past n h = keeps r past n (runs (st.anew w past n p (running w past n p g h)))
  keeps (work_done {w = w} g e r) past n h = keeps r past _ (runs (keeps_work w past n e (running w past n between g h)))
  keeps (request_made {w = w} {d = d} {out = out} g e r) past n h = keeps r past _ (runs (keeps_ask w past n d out e (running w past n (begun d) g h)))
  keeps (request_arrives {w = w} {d = d} {out = out} e r) past n (runs h) = keeps r past _ (runs (keeps_once w past n d out e h))
  keeps (request_repeats {w = w} {d = d} {out = out} e r) past n (runs h) = keeps r past _ (runs (keeps_again w past n d out e h))
  keeps (delivered {w = w} {d = d} {rs = rs} e r) past n (runs h) = rw (← one_more_lem past d rs) (keeps r (past ++ (d ∷ [])) _ (heard w past n w.answer d e (st.hears_once w past n d e h)))
  keeps (request_lost {w = w} {d = d} {rs = rs} e r) past n (runs h) = rw (← one_more_lem past false rs) (keeps r (past ++ (false ∷ [])) _ (heard w past n [] false e (st.hears_nothing w past n (asked d) e h)))
  keeps (answer_lost {w = w} {d = d} {rs = rs} e r) past n (runs h) = rw (← one_more_lem past false rs) (keeps r (past ++ (false ∷ [])) _ (heard w past n [] false e (st.hears_nothing w past n (arrived d) e h)))
  keeps (twice {w = w} {d = d} {rs = rs} e r) past n (runs h) = rw (← one_more_lem past d rs) (keeps r (past ++ (d ∷ [])) _ (heard w past n w.answer d e (st.hears_second w past n d e h)))
  keeps (ended_works {w = w} g e r) past n h = keeps r past _ (ended (ended_works_lem w past n e (over w past n g h)))
  keeps (ended_asks {w = w} {l = l} {out = out} g r) past n h = keeps r past _ (ended (ended_asks_lem w past n l out (over w past n g h)))
  keeps (ended_hears {w = w} {l = l} {b = b} g r) past n h = keeps r past _ (ended (ended_hears_lem w past n l b g (over w past n g h)))
