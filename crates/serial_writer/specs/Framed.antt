-- A frame of a start byte and what stands between it and the tail, before that is doubled (document 01, "The two serial links").
use Rattle.std.specs.Prelude.{ℕ, List, [], ◌∷◌, ◌++◌}
use Rattle.serial_rules.specs.Stuffing.{esc, tail_byte, doubled}

abbrev pub framed : ℕ → List ℕ → List ℕ
framed start body = esc ∷ start ∷ (doubled body ++ (esc ∷ tail_byte ∷ []))
