-- The console over octets: what it keeps between two of them, one octet, a chunk of any length, and the end of the input.
use Rattle.std.specs.Prelude.{ℕ, ◌*◌, List, [], ◌∷◌, ◌++◌, leb, ltb, eqb, length}
use Rattle.base.specs.Choice.{pick, must}
use Rattle.base.specs.Outcome.{Outcome, Outcome.done, Outcome.refused}
use Rattle.text.specs.Buffer.{standing}
use Rattle.text.specs.Fields.{newline}
use Rattle.program_lines.specs.Line.{line_of}
use Rattle.program_rows.specs.Rows.{text_of, header_text, row_room}
use Rattle.program_turns.specs.Turns.{turn_of}
use Rattle.program_turns.specs.declared.Session.{Session}
use Rattle.program_turns.specs.declared.Session.TheVariants.{Fresh}
use Rattle.program_turns.specs.declared.Turn.{Turn}
use Rattle.program_console.specs.declared.Console.{Console}

-- the session, and the octets of the line under way
pub record Progress : Type 0 where
  pub session : Session
  pub line : List ℕ

-- a progress by its session and its line
abbrev pub progress : Session → List ℕ → Progress
progress session line = record { session = session; line = line }

-- before the first octet
abbrev pub at_start : Progress
at_start = progress Fresh []

-- of a console: what its buffer holds behind the octets kept shows nowhere
abbrev pub progress_of : Console → Progress
progress_of c = progress c.session (standing c.line)

-- 64 octets of a line are kept at the most, so that a line over 63 still shows as too long
abbrev pub most_kept : ℕ
most_kept = 64

-- the line under way with one octet more
abbrev pub kept_with : List ℕ → ℕ → List ℕ
kept_with line octet = pick (ltb (length line) most_kept) (line ++ (octet ∷ [])) line

-- the turn of the line under way, where it ends
unfoldable pub end_of : Progress → Turn
end_of p = turn_of p.session (line_of p.line)

-- one octet: a newline ends the line, any other is kept
unfoldable pub octet_next : Progress → ℕ → Progress
octet_next p octet = pick (eqb octet newline) (progress (end_of p).session []) (progress p.session (kept_with p.line octet))

-- and what is written then
unfoldable pub octet_text : Progress → ℕ → List ℕ
octet_text p octet = pick (eqb octet newline) (text_of (end_of p).output) []

-- octets one after the other
unfoldable pub chunk_next : Progress → List ℕ → Progress
chunk_next p [] = p
chunk_next p (octet ∷ chunk) = chunk_next (octet_next p octet) chunk

-- and what is written for them
unfoldable pub chunk_text : Progress → List ℕ → List ℕ
chunk_text p [] = []
chunk_text p (octet ∷ chunk) = octet_text p octet ++ chunk_text (octet_next p octet) chunk

-- the end of the input: "a last line needs no newline"
unfoldable pub last_text : Progress → List ℕ
last_text p = pick (eqb (length p.line) 0) [] (text_of (end_of p).output)

-- feeding a chunk: a row's room for each octet of it is room enough; 11 where the room is less
unfoldable pub feeding : Progress → List ℕ → ℕ → Outcome (Unit {0})
feeding p chunk room = must (leb (length chunk * row_room) room) (refused 11 0) (done (chunk_text p chunk) tt)

-- and what is kept after it
unfoldable pub fed_next : Progress → List ℕ → ℕ → Progress
fed_next p chunk room = must (leb (length chunk * row_room) room) p (chunk_next p chunk)

-- the program: the header, what each chunk's feeding writes, and the end
unfoldable pub fed_text : Progress → List (List ℕ) → List ℕ
fed_text p [] = last_text p
fed_text p (chunk ∷ chunks) = chunk_text p chunk ++ fed_text (chunk_next p chunk) chunks

-- the input that chunks are the parts of
abbrev pub joined_chunks : List (List ℕ) → List ℕ
joined_chunks [] = []
joined_chunks (chunk ∷ chunks) = chunk ++ joined_chunks chunks

-- what the program writes for an input read in these chunks; it is `output_of` of the whole input (proofs/Program)
unfoldable pub program_text : List (List ℕ) → List ℕ
program_text chunks = header_text ++ fed_text at_start chunks
