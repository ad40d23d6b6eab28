-- Document 01, "The program": the whole output of an input.
use Rattle.std.specs.Prelude.{ℕ, List, [], ◌∷◌, ◌++◌}
use Rattle.text.specs.Fields.{lines_of}
use Rattle.program_lines.specs.Line.{line_of}
use Rattle.program_rows.specs.Rows.{text_of, header_text}
use Rattle.program_turns.specs.Turns.{turn_of}
use Rattle.program_turns.specs.declared.Session.{Session}
use Rattle.program_turns.specs.declared.Session.TheVariants.{Fresh}

-- what is written for lines, one after the other
unfoldable pub written_for : Session → List (List ℕ) → List ℕ
written_for session [] = []
written_for session (line ∷ lines) = text_of (turn_of session (line_of line)).output ++ written_for (turn_of session (line_of line)).session lines

-- the whole output of an input
unfoldable pub output_of : List ℕ → List ℕ
output_of input = header_text ++ written_for Fresh (lines_of input)
