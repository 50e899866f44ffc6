-- A beginning of a legal list is legal, with its own rounds: induction over the list, cut at its first call or after it. And what calls tell, by induction over them.
use Prim.Native.Nat.{ℕ}
use mathlib.Core.Bool.{Bool, true, false, cond}
use mathlib.Core.List.{List, [], ◌∷◌, ◌++◌}
use mathlib.Core.Path.{◌≡◌, refl, ap, ◌∙◌}
use native.Mathlib.Omega.{arith}
use Rattle.round_rules.specs.Legal.{Place, Legal, stops, refuses, begun_anew, work_done, request_made, request_arrives, request_repeats, delivered, request_lost, answer_lost, twice, ended_works, ended_asks, ended_hears, Beginning, EveryBeginning}
use Rattle.round_rules.specs.Requester.{Requester}
use Rattle.round_rules.specs.World.{World, Call, does, run, is_refused, told}

pub run-append : {S : Type 0} (s : Requester S) (w : World S) (a b : List Call) → run s w (a ++ b) ≡ run s (run s w a) b
unfolding run
run-append s w [] b = refl
run-append s w (c ∷ a) b = run-append s (does s w c) a b

-- A part of what calls tell is what they tell by the part of each step.
part_of : {T U : Type 0} (part : T → U) (b : Bool) (x y : T) → part (cond b x y) ≡ cond b (part x) (part y)
part_of part true x y = refl
part_of part false x y = refl

module _ {S T U : Type 0} (s : Requester S) (whole : World S → Call → T → T) (one : World S → Call → U → U) (part : T → U)
    (same : (w : World S) (c : Call) (t : T) → part (whole w c t) ≡ one w c (part t)) where
  pub told_part : (w : World S) (h : List Call) (t : T) → part (told s whole w h t) ≡ told s one w h (part t)
  unfolding told
  told_part w [] t = refl
  told_part w (c ∷ h) t =
      told_part (does s w c) h _ ∙ ap (told s one (does s w c) h) (part_of part (is_refused s w c) t (whole w c t) ∙ ap (cond (is_refused s w c) (part t)) (same w c t))

-- A list with a first call, cut at it or after it.
cut : (P : List Call → Type 0) (a b : List Call) (c : Call) (h : List Call) → c ∷ h ≡ a ++ b → P [] → ((a' : List Call) → h ≡ a' ++ b → P (c ∷ a')) → P a
cut P [] b c h e empty some = empty
cut P (x ∷ a) b c h e empty some =
    let same : x ≡ c = cc in
    let rest : h ≡ a ++ b = cc in
    rw same (some a rest)

module _ {S : Type 0} {s : Requester S} where
  none : {w : World S} {p : Place} (rs : List Bool) → Beginning s w p rs []
  none rs = record { first = []; later = rs; same = refl; legal = stops }

  -- A call in front of a beginning, and one that ends a round.
  front : {w v : World S} {p q : Place} {c : Call} {a : List Call} {rs : List Bool} → ((h : List Call) (rounds : List Bool) → Legal s v q h rounds → Legal s w p (c ∷ h) rounds)
      → Beginning s v q rs a → Beginning s w p rs (c ∷ a)
  front {a = a} step g = record { first = g.first; later = g.later; same = g.same; legal = step a g.first g.legal }

  round : {w v : World S} {p q : Place} {c : Call} {a : List Call} {rs : List Bool} (d : Bool) → ((h : List Call) (rounds : List Bool) → Legal s v q h rounds → Legal s w p (c ∷ h) (d ∷ rounds))
      → Beginning s v q rs a → Beginning s w p (d ∷ rs) (c ∷ a)
  round {a = a} d step g = record { first = d ∷ g.first; later = g.later; same = ap (λ (x : List Bool). d ∷ x) g.same; legal = step a g.first g.legal }

  begins : {w : World S} {p : Place} {h : List Call} {rs : List Bool} → Legal s w p h rs → (a b : List Call) → h ≡ a ++ b → Beginning s w p rs a
  begins stops [] b q = none []
  begins stops (x ∷ a) b q = absurd (let z : ◌≡◌ {A = ℕ} 0 1 = cc in omega arith)
  begins (begun_anew n r) a b q = let g = begins r a b q in record { first = g.first; later = g.later; same = g.same; legal = begun_anew n g.legal }
  begins (refuses e r) a b q = cut (Beginning s _ _ _) a b _ _ q (none _) (λ a' q'. front (λ h rs. refuses e) (begins r a' b q'))
  begins (work_done n e r) a b q = cut (Beginning s _ _ _) a b _ _ q (none _) (λ a' q'. front (λ h rs. work_done n e) (begins r a' b q'))
  begins (request_made n e r) a b q = cut (Beginning s _ _ _) a b _ _ q (none _) (λ a' q'. front (λ h rs. request_made n e) (begins r a' b q'))
  begins (request_arrives e r) a b q = cut (Beginning s _ _ _) a b _ _ q (none _) (λ a' q'. front (λ h rs. request_arrives e) (begins r a' b q'))
  begins (request_repeats e r) a b q = cut (Beginning s _ _ _) a b _ _ q (none _) (λ a' q'. front (λ h rs. request_repeats e) (begins r a' b q'))
  begins (delivered {d = d} e r) a b q = cut (Beginning s _ _ _) a b _ _ q (none _) (λ a' q'. round d (λ h rs. delivered e) (begins r a' b q'))
  begins (request_lost e r) a b q = cut (Beginning s _ _ _) a b _ _ q (none _) (λ a' q'. round false (λ h rs. request_lost e) (begins r a' b q'))
  begins (answer_lost e r) a b q = cut (Beginning s _ _ _) a b _ _ q (none _) (λ a' q'. round false (λ h rs. answer_lost e) (begins r a' b q'))
  begins (twice {d = d} e r) a b q = cut (Beginning s _ _ _) a b _ _ q (none _) (λ a' q'. round d (λ h rs. twice e) (begins r a' b q'))
  begins (ended_works n e r) a b q = cut (Beginning s _ _ _) a b _ _ q (none _) (λ a' q'. front (λ h rs. ended_works n e) (begins r a' b q'))
  begins (ended_asks n r) a b q = cut (Beginning s _ _ _) a b _ _ q (none _) (λ a' q'. front (λ h rs. ended_asks n) (begins r a' b q'))
  begins (ended_hears n r) a b q = cut (Beginning s _ _ _) a b _ _ q (none _) (λ a' q'. front (λ h rs. ended_hears n) (begins r a' b q'))

pub every-beginning : EveryBeginning
every-beginning S a w p past rest rounds legal = begins legal past rest refl
