-- The lines of the listing (document 01, "The listing"): what each says, and its text.
use Rattle.std.specs.Prelude.{ℕ, ◌+◌, cond, List, [], ◌∷◌, ◌++◌, leb, None, Option, Some}
use Prim.Native.Char.{code}
use Prim.Native.String.{String}
use Prim.Native.String as StringOf
use Rattle.text_rules.specs.Numbers.{decimal}
use Rattle.message_rules.specs.Answer.{Answer, refused, given}
use Rattle.message_rules.specs.Data.{error_number}
use Rattle.message_rules.specs.Kinds.{error_length, is_event}
use Rattle.message_rules.specs.declared.Kind.{Kind}
use Rattle.message_rules.specs.declared.Kind.TheVariants as KindOf
use Rattle.message_rules.specs.declared.Message.{Message}
use Rattle.listing_rules.specs.declared.Line.{Line}

-- The bytes of a text.
abbrev pub text : String → List ℕ
text StringOf.[] = []
text (StringOf.◌∷◌ c s) = code c ∷ text s

-- "Kinds: tc, tcack, tcnack, tlmreq, tlmrsp, tlmnack, event."
abbrev pub kind_text : Kind → List ℕ
kind_text KindOf.Telecommand = text "tc"
kind_text KindOf.TelecommandAck = text "tcack"
kind_text KindOf.TelecommandNack = text "tcnack"
kind_text KindOf.TelemetryRequest = text "tlmreq"
kind_text KindOf.TelemetryResponse = text "tlmrsp"
kind_text KindOf.TelemetryNack = text "tlmnack"
kind_text KindOf.Event = text "event"

abbrev pub name_text : Option Kind → List ℕ
name_text (Some k) = kind_text k
name_text None = text "refused"

abbrev pub field_text : Option ℕ → List ℕ
field_text (Some n) = decimal n
field_text None = text "-"

-- "ID or `-` (events and refusals)": of a message.
unfoldable pub id_of : Message → Option ℕ
id_of m = cond (is_event m.kind) None (Some m.id)

-- "Error byte of acks and nacks, refusal number, else `-`": of a message.
unfoldable pub code_of : Message → Option ℕ
code_of m = cond (leb 1 (error_length m.kind)) (Some (error_number m.error)) None

-- "Fields: offset of the ESC; kind; ID or `-`; data bytes after undoubling (`-` for refusals); error byte of acks and nacks, refusal
-- number, else `-`." The reader tells a message and the length of its payload, or a refusal number.
unfoldable pub line : ℕ → Answer Message ℕ → Line
line at (refused n) = record { at = at; name = None; id = None; len = None; code = Some n }
line at (given m n) =
    record { at = at; name = Some m.kind; id = id_of m; len = Some (error_length m.kind + n); code = code_of m }

-- A field after another.
unfoldable pub spaced : List ℕ → List ℕ
spaced f = text " " ++ f

-- "Fields": the line as text, one space between two fields, and LF at the end.
unfoldable pub line_text : Line → List ℕ
line_text l =
    decimal l.at ++ spaced (name_text l.name) ++ spaced (field_text l.id) ++ spaced (field_text l.len) ++ spaced (field_text l.code) ++ text "\n"
