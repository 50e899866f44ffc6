-- The laws of reading: what the checks of a message come to, and how the payload of its frames fills the output frame by frame. Carried by
-- the case of each check, and by induction on the frames still to come.
use Rattle.std.specs.Prelude.{Err, Ok, Result}
use Prim.Native.Nat.{ℕ, zero, suc, ◌+◌, ◌-◌, ◌≤◌, ◌<◌}
use mathlib.Core.Bool.{true}
use mathlib.Core.List.{List, [], ◌++◌, append_assoc, append-nil}
use mathlib.Core.Path.{◌≡◌, refl, ap, sym, ◌∙◌}
use native.Mathlib.Omega.{arith}
use borrow.Author.Tests.{ne_eqb, leb-true}
use lib.Dec.{leb}
use lib.ListN.{length, get_or, take, drop, length-append, length-drop}
use borrow.Rule.Slice.PartMut.{put_mid}
use lib.Seq.{drop_at, length-take-le, take-length}
use Rattle.std.proofs.lemmas.List.{drop-append-le, take-append-le, get_or_append_left}
use Rattle.std.proofs.lemmas.Slice.{take-put_mid}
use Rattle.message_rules.specs.Answer.{Answer, Check, refused, given, refusal_number, passed, require, after, within, counted, verdict_result}
use Rattle.message_rules.specs.declared.Message.{Message}
use Rattle.message_rules.specs.declared.Refusal.{Refusal}
use Rattle.message_rules.proofs.Checks.{require-passed}
use Rattle.message_rules.proofs.Answers.{too_short, long_enough, after-passed}
use Rattle.can_rules.specs.Can.{first_checks, later_checks, later_frames, all_frames, can_message, message_checks, complete, can_read}
use Rattle.can_rules.proofs.RoundTrip.{complete_back}
use Rattle.can_rules.proofs.Series.{prepend-given}
use Rattle.can_scan.specs.Measured.{measured}
use Rattle.can_scan.proofs.Scanning.{payload, counted-given, rest_of, refused-measured, given-measured, all_single, all_series, single_dlc, series-dlc, single_counted, later-passed, passed-dlc}

module _ {A : Type 0} where
  pub within_short : (x : Answer A (List ℕ)) (a : A) (n : ℕ) (out : List ℕ) → counted x ≡ given a n → length out < n → within out x ≡ refused 8
  within_short x a n out e h =
      let g = counted-given x a n e in
      ap (within out) g.0 ∙ too_short out a (payload x) (omega (arith, g.1))

  pub within_long : (x : Answer A (List ℕ)) (a : A) (n : ℕ) (out : List ℕ) → counted x ≡ given a n → n ≤ length out → within out x ≡ x
  within_long x a n out e h =
      let g = counted-given x a n e in
      ap (within out) g.0 ∙ long_enough out a (payload x) (omega (arith, g.1)) ∙ sym g.0

-- Frames that are refused are a message that is refused.
pub frames-refused : (b : List ℕ) (k : ℕ) → measured (all_frames b) ≡ refused k → can_read b ≡ refused k
unfolding can_read complete
frames-refused b k e = rw (refused-measured (all_frames b) k e)

-- Frames that are given passed the checks of the first.
frames-first : (b rest p : List ℕ) → all_frames b ≡ given rest p → (13 ≤ length b) × (first_checks (take 13 b) ≡ passed)
unfolding all_frames
frames-first b rest p e =
    let h = after-passed (require (leb 13 (length b)) 1 (first_checks (take 13 b))) _ rest p e in
    let h1 = require-passed (leb 13 (length b)) 1 (first_checks (take 13 b)) h.0 in
    (leb-true 13 (length b) h1.0, h1.1)

pub counted-first : (b rest : List ℕ) (n : ℕ) → counted (all_frames b) ≡ given rest n → (13 ≤ length b) × (first_checks (take 13 b) ≡ passed)
counted-first b rest n e = frames-first b rest (payload (all_frames b)) (counted-given (all_frames b) rest n e).0

-- Frames that passed their checks: what is left are the checks of the message.
no_more : (c : Check) (x : Answer Message (List ℕ)) → after (require true 4 c) x ≡ after c x
unfolding require
no_more c x = refl

complete_checked : (b r p : List ℕ) → length r ≡ 0 → complete b (given r p) ≡ after (message_checks (get_or b 3 0) (can_message b) (length p)) (given (can_message b) p)
unfolding complete
complete_checked b r p h = rw h (no_more (message_checks (get_or b 3 0) (can_message b) (length p)) (given (can_message b) p))

-- The same as the scan tells it: so many bytes are left, and the payload has n.
module _ (b : List ℕ) (left n : ℕ) (frames : measured (all_frames b) ≡ given left n) where
  scanned : (counted (all_frames b) ≡ given (rest_of (all_frames b)) n) × (length (rest_of (all_frames b)) ≡ left)
  scanned = given-measured (all_frames b) left n frames

  pub whole_long : 13 ≤ length b
  whole_long = (counted-first b (rest_of (all_frames b)) n scanned.0).0

  pub whole_trailing : 0 < left → can_read b ≡ refused 4
  unfolding can_read complete require after
  whole_trailing h = rw ((counted-given (all_frames b) _ n scanned.0).0, ne_eqb (length (rest_of (all_frames b))) 0 (λ z. omega (arith, z, scanned.1)))

  -- With nothing left, the verdict on the message that the first frame tells decides.
  module _ (none : left ≤ 0) (m : Message) (first : m ≡ can_message b) (v : Result Unit Refusal) (says : verdict_result v ≡ message_checks (get_or b 3 0) m n) where
    whole_checked : can_read b ≡ after (verdict_result v) (given m (payload (all_frames b)))
    unfolding can_read
    whole_checked =
        let g = counted-given (all_frames b) _ n scanned.0 in
        ap (complete b) g.0 ∙ complete_checked b _ (payload (all_frames b)) (omega (arith, scanned.1)) ∙ rw (g.1, says, first)

    pub whole-refused : (r : Refusal) → v ≡ Err r → can_read b ≡ refused (refusal_number r)
    unfolding after verdict_result
    whole-refused r e = whole_checked ∙ rw e

    pub whole-given : v ≡ Ok tt → counted (can_read b) ≡ given m n
    unfolding after verdict_result counted
    whole-given e = rw (whole_checked, e) (ap (given m) (counted-given (all_frames b) _ n scanned.0).1)

-- A message that was read is that of its frames, all of the input.
module _ (b : List ℕ) (m : Message) (n : ℕ) (says : counted (can_read b) ≡ given m n) where
  all_given : all_frames b ≡ given [] (payload (can_read b))
  unfolding can_read
  all_given = (complete_back b (all_frames b) m (payload (can_read b)) (counted-given (can_read b) m n says).0).0

  pub read-frames : counted (all_frames b) ≡ given [] n
  unfolding counted
  read-frames = ap counted all_given ∙ ap (given []) (counted-given (can_read b) m n says).1

  -- What holds the payload holds what was read.
  pub read-output : (p : List ℕ) → all_frames b ≡ given [] p → can_read b ≡ given m p
  read-output p e =
      let same : given [] (payload (can_read b)) ≡ given [] p = sym all_given ∙ e in
      let q : payload (can_read b) ≡ p = cc in
      (counted-given (can_read b) m n says).0 ∙ ap (given m) q

-- Frames that are all of the input and make up n bytes of payload.
module _ (b : List ℕ) (n : ℕ) (says : counted (all_frames b) ≡ given [] n) where
  first : (13 ≤ length b) × (first_checks (take 13 b) ≡ passed)
  first = counted-first b [] n says

  pub frame_room : 13 ≤ length b
  frame_room = first.0

  -- A single frame's payload is its data.
  pub single_room : get_or b 3 0 < 7 → 5 + n ≤ length b
  single_room h =
      let size : get_or b 4 0 ≡ n = cc (single_counted b first.0 first.1 h, says) in
      omega (arith, single_dlc b first.0 first.1 h, first.0)

  pub single-payload : get_or b 3 0 < 7 → all_frames b ≡ given [] (take n (drop 5 b))
  single-payload h =
      let size : get_or b 4 0 ≡ n = cc (single_counted b first.0 first.1 h, says) in
      let none : drop 13 b ≡ [] = cc (single_counted b first.0 first.1 h, says) in
      all_single b first.0 first.1 h ∙ rw (size, none)

-- The payload of so many frames that are all that is left: all data of each but its count.
unfoldable pub Run : List ℕ → ℕ → List ℕ → Type 0
Run r zero p = (r ≡ []) × (p ≡ [])
Run r (suc n) p =
    (13 ≤ length r) × (1 ≤ get_or r 4 0) × (get_or r 4 0 ≤ 8) × (take (get_or r 4 0 - 1) (drop 5 r) ++ drop (get_or r 4 0 - 1) p ≡ p)
    × Run (drop 13 r) n (drop (get_or r 4 0 - 1) p)

run_more : (r : List ℕ) (n : ℕ) (q : List ℕ) → 13 ≤ length r → 1 ≤ get_or r 4 0 → get_or r 4 0 ≤ 8 → Run (drop 13 r) n q → Run r (suc n) (take (get_or r 4 0 - 1) (drop 5 r) ++ q)
unfolding Run
run_more r n q room low high run =
    let d = take (get_or r 4 0 - 1) (drop 5 r) in
    let size : length d ≡ get_or r 4 0 - 1 = length-take-le (get_or r 4 0 - 1) (drop 5 r) (rw length-drop (omega arith)) in
    let same : drop (get_or r 4 0 - 1) (d ++ q) ≡ q = drop_at d q (get_or r 4 0 - 1) size in
    (room, low, high, ap (λ (x : List ℕ). d ++ x) same, rw same run)

later-run : (i : List ℕ) (n : ℕ) (r p : List ℕ) → later_frames i n r ≡ given [] p → Run r n p
unfolding Run later_frames
later-run i zero r p e = (cc, cc)
later-run i (suc n) r p e =
    let h = after-passed (require (leb 13 (length r)) 1 (later_checks i n (take 13 r))) _ [] p e in
    let h1 = require-passed (leb 13 (length r)) 1 (later_checks i n (take 13 r)) h.0 in
    let room : 13 ≤ length r = leb-true 13 (length r) h1.0 in
    let d = passed-dlc i n r h1.1 in
    let g = prepend-given _ _ [] p (sym (later-passed i n r room h1.1) ∙ e) in
    rw (← g.2) (run_more r n g.0 room d.0 d.1 (later-run i n (drop 13 r) g.0 g.1))

series-run : (b p : List ℕ) → all_frames b ≡ given [] p → 7 ≤ get_or b 3 0 → Run b (suc (get_or b 12 0)) p
series-run b p e h =
    let f = frames-first b [] p e in
    let dlc : get_or b 4 0 ≡ 8 = series-dlc b f.0 f.1 h in
    let g = prepend-given (take 7 (drop 5 b)) _ [] p (sym (all_series b f.0 f.1 h) ∙ e) in
    let m = run_more b (get_or b 12 0) g.0 f.0 (omega (arith, dlc)) (omega (arith, dlc)) (later-run (take 4 b) (get_or b 12 0) (drop 13 b) g.0 g.1) in
    rw (← g.2) (rw dlc at m)

-- Before a turn of the copy into an output of this size: what is stored in front of `to`, and the payload of the frames left, are the whole payload.
pub record Storing (b r out : List ℕ) (size to : ℕ) : Type 0 where
  pub left : ℕ
  pub rest : List ℕ
  pub run : Run r left rest
  pub fits : to + length rest ≡ size
  pub same : all_frames b ≡ given [] (take to out ++ rest)

pub store-first : (b out : List ℕ) (size : ℕ) → counted (all_frames b) ≡ given [] size → 7 ≤ get_or b 3 0 → Storing b b out size 0
store-first b out size e h =
    let g = counted-given (all_frames b) [] size e in
    record { left = suc (get_or b 12 0); rest = payload (all_frames b); run = series-run b _ g.0 h; fits = omega (arith, g.1); same = g.0 }

-- What a frame in front tells.
front : (r f others : List ℕ) (n : ℕ) (p : List ℕ) → r ≡ f ++ others → length f ≡ 13 → Run r (suc n) p
    → (1 ≤ get_or f 4 0) × (get_or f 4 0 ≤ 8) × (take (get_or f 4 0 - 1) (drop 5 f) ++ drop (get_or f 4 0 - 1) p ≡ p) × Run others n (drop (get_or f 4 0 - 1) p)
unfolding Run
front r f others n p parts long run =
    let whole = rw parts at run in
    let dlc : get_or (f ++ others) 4 0 ≡ get_or f 4 0 = get_or_append_left f others 0 4 (omega arith) in
    let low = rw dlc at whole.1 in
    let high = rw dlc at whole.2 in
    let k = get_or f 4 0 - 1 in
    let d : take k (drop 5 (f ++ others)) ≡ take k (drop 5 f) = rw (drop-append-le 5 f others (omega arith)) (take-append-le k (drop 5 f) others (rw length-drop (omega arith))) in
    (low, high, rw (dlc, d) at whole.3, rw (dlc, drop_at f others 13 long) at whole.4)

-- The frame of a turn, and the copy after it.
pub record Turn (b f others out : List ℕ) (size to : ℕ) : Type 0 where
  pub low : 1 ≤ get_or f 4 0
  pub high : get_or f 4 0 ≤ 8
  pub inside : to + (get_or f 4 0 - 1) ≤ size
  pub next : Storing b others (put_mid to (get_or f 4 0 - 1) out (take (get_or f 4 0 - 1) (drop 5 f))) size (to + (get_or f 4 0 - 1))

module _ (b r f others out : List ℕ) (size to : ℕ) (room : length out ≡ size) (parts : r ≡ f ++ others) (long : length f ≡ 13) where
  turn : (n : ℕ) (p : List ℕ) → Run r n p → to + length p ≡ size → all_frames b ≡ given [] (take to out ++ p) → Turn b f others out size to
  unfolding Run
  turn zero p run fits same = let none : length r ≡ 0 = ap length run.0 in absurd (omega (arith, none, ap length parts, length-append f others))
  turn (suc n) p run fits same =
      let t = front r f others n p parts long run in
      let k = get_or f 4 0 - 1 in
      let d = take k (drop 5 f) in
      let taken : length d ≡ k = length-take-le k (drop 5 f) (rw length-drop (omega (arith, t.1))) in
      let sizes : length d + length (drop k p) ≡ length p = sym (length-append d (drop k p)) ∙ ap length t.2 in
      let stored : take (to + k) (put_mid to k out d) ≡ take to out ++ d = take-put_mid to k out d (to + k) (omega (arith, taken)) (omega arith) in
      record {
        low = t.0;
        high = t.1;
        inside = omega (arith, taken, sizes);
        next = record {
          left = n;
          rest = drop k p;
          run = t.3;
          fits = omega (arith, taken, sizes);
          same = rw (stored, append_assoc, t.2) same;
        };
      }

  pub store_turn : Storing b r out size to → Turn b f others out size to
  store_turn s = turn s.left s.rest s.run s.fits s.same

-- At the end no frame is left.
no_rest : (r : List ℕ) (n : ℕ) (p : List ℕ) → Run r n p → length r < 13 → p ≡ []
unfolding Run
no_rest r zero p run short = run.1
no_rest r (suc n) p run short = absurd (omega (arith, run.0))

pub store-last : (b r out : List ℕ) (to : ℕ) → Storing b r out (length out) to → length r < 13 → all_frames b ≡ given [] out
store-last b r out to s short =
    let none = no_rest r s.left s.rest s.run short in
    let end : to ≡ length out = omega (arith, s.fits, ap length none) in
    s.same ∙ rw (none, end, take-length) (ap (given []) (append-nil out))
