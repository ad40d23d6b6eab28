-- What the program writes is document 01's output of its input, however the input is cut into chunks: `program`.
use mathlib.Core.Path.{◌≡◌, refl, sym, ap, ap₂, ◌∙◌}
use mathlib.Core.Bool.{Bool, true, false}
use mathlib.Core.Logic.{⊎_elim}
use mathlib.Core.List.{List, [], ◌∷◌, ◌++◌, append_assoc, append-nil}
use Prim.Native.Nat.{ℕ, suc, ◌+◌, ◌≤◌}
use native.Mathlib.Omega.{arith}
use borrow.Author.Tests.{lt-ltb, le-ltb}
use lib.Dec.{eqb}
use lib.ListN.{length, take, length-append, length-take}
use lib.Seq.{take_all, take-append-le, length-take-le}
use Rattle.text.specs.Fields.{newline, before, lines_of}
use Rattle.text.proofs.Decimals.{order}
use Rattle.base.specs.Choice.{pick}
use Rattle.program_lines.specs.declared.Line.{Line}
use Rattle.program_turns.specs.declared.Session.{Session}
use Rattle.program_lines.specs.Line.{line_of}
use Rattle.program_rows.specs.Rows.{text_of, header_text}
use Rattle.program_turns.specs.Turns.{turn_of}
use Rattle.program_console.specs.Console.{written_for, output_of}
use Rattle.program_console.specs.Feed.{Progress, progress, at_start, kept_with, end_of, octet_next, octet_text, chunk_next, chunk_text, last_text, fed_text, joined_chunks, program_text}
use Rattle.program_lines.proofs.Words.{line_long}
use Rattle.program_console.proofs.Feeding.{next_append, text_append, last_none, last_some}

-- of a line 64 octets are enough
kept_line : (line : List ℕ) → line_of (take 64 line) ≡ line_of line
kept_line line =
    ⊎_elim (λ h. ap line_of (take_all 64 line h))
    (λ h. line_long (take 64 line) (omega (arith, length-take 64 line)) ∙ sym (line_long line (omega arith)))
    (order (length line) 64)

kept_octet : (line : List ℕ) (c : ℕ) → kept_with (take 64 line) c ≡ take 64 (line ++ (c ∷ []))
kept_octet line c =
    let a : length (line ++ (c ∷ [])) ≡ length line + 1 = length-append line (c ∷ []) in
    ⊎_elim
    (λ h.
    let t : take 64 line ≡ line = take_all 64 line (omega arith) in
    let b : length (line ++ (c ∷ [])) ≤ 64 = omega arith in
    ap (λ (s : List ℕ). kept_with s c) t ∙ rw (lt-ltb (length line) 64 h) (sym (take_all 64 (line ++ (c ∷ [])) b)))
    (λ h.
    let l : length (take 64 line) ≡ 64 = length-take-le 64 line (omega arith) in
    rw (le-ltb (length (take 64 line)) 64 (omega arith)) (sym (take-append-le 64 line (c ∷ []) (omega arith))))
    (order (suc (length line)) 64)

-- octets of a line under way, in front of the lines to come
abbrev under : List ℕ → List (List ℕ) → List (List ℕ)
under [] lines = lines
under (c ∷ line) [] = (c ∷ line) ∷ []
under (c ∷ line) (next ∷ lines) = ((c ∷ line) ++ next) ∷ lines

under_octet : (line : List ℕ) (c : ℕ) (lines : List (List ℕ)) → under line (before c lines) ≡ under (line ++ (c ∷ [])) lines
under_octet [] c [] = refl
under_octet [] c (next ∷ lines) = refl
under_octet (x ∷ line) c [] = refl
under_octet (x ∷ line) c (next ∷ lines) = ap (λ (s : List ℕ). (x ∷ s) ∷ lines) (sym (append_assoc line (c ∷ []) next))

under_end : (line : List ℕ) (lines : List (List ℕ)) → under line ([] ∷ lines) ≡ line ∷ lines
under_end [] lines = refl
under_end (x ∷ line) lines = ap (λ (s : List ℕ). (x ∷ s) ∷ lines) (append-nil line)

-- what the octets of an input write behind a line under way, the last line too
abbrev rest : Progress → List ℕ → List ℕ
rest p input = chunk_text p input ++ last_text (chunk_next p input)

module _ (session : Session) (line : List ℕ) (c : ℕ) (input : List ℕ)
    (on : (s : Session) (l : List ℕ) → rest (progress s (take 64 l)) input ≡ written_for s (under l (lines_of input))) where
  -- the lines' turns one after the other
  turns : (b : Bool) → eqb c newline ≡ b
      → rest (progress session (take 64 line)) (c ∷ input) ≡ written_for session (under line (pick b ([] ∷ lines_of input) (before c (lines_of input))))
  unfolding chunk_text chunk_next octet_next octet_text end_of written_for
  turns true e =
      let t = turn_of session (line_of (take 64 line)) in
      rw e
      (append_assoc (text_of t.output) (chunk_text (progress t.session []) input) (last_text (chunk_next (progress t.session []) input))
      ∙ ap (λ (s : List ℕ). text_of t.output ++ s) (on t.session [])
      ∙ ap (λ (l : Line). text_of (turn_of session l).output ++ written_for (turn_of session l).session (lines_of input)) (kept_line line)
      ∙ ap (written_for session) (sym (under_end line (lines_of input))))
  turns false e =
      rw e
      (ap (λ (s : List ℕ). rest (progress session s) input) (kept_octet line c)
      ∙ on session (line ++ (c ∷ []))
      ∙ ap (written_for session) (sym (under_octet line c (lines_of input))))

lines_written : (input : List ℕ) (session : Session) (line : List ℕ) → rest (progress session (take 64 line)) input ≡ written_for session (under line (lines_of input))
unfolding chunk_text chunk_next end_of lines_of written_for
lines_written [] session [] = last_none (progress session []) refl
lines_written [] session (x ∷ line) =
    last_some (progress session (take 64 (x ∷ line))) (λ z. omega arith)
    ∙ ap (λ (l : Line). text_of (turn_of session l).output) (kept_line (x ∷ line))
    ∙ sym (append-nil (text_of (turn_of session (line_of (x ∷ line))).output))
lines_written (c ∷ input) session line = turns session line c input (lines_written input) (eqb c newline) refl

-- chunk by chunk is all at once
fed_at_once : (p : Progress) (chunks : List (List ℕ)) → fed_text p chunks ≡ chunk_text p (joined_chunks chunks) ++ last_text (chunk_next p (joined_chunks chunks))
unfolding fed_text chunk_text chunk_next
fed_at_once p [] = refl
fed_at_once p (chunk ∷ chunks) =
    let q = chunk_next p chunk in
    let s = joined_chunks chunks in
    ap (λ (t : List ℕ). chunk_text p chunk ++ t) (fed_at_once q chunks)
    ∙ sym (append_assoc (chunk_text p chunk) (chunk_text q s) (last_text (chunk_next q s)))
    ∙ ap₂ (λ (t : List ℕ) (r : Progress). t ++ last_text r) (sym (text_append p chunk s)) (sym (next_append p chunk s))

pub program : (input : List ℕ) (chunks : List (List ℕ)) → joined_chunks chunks ≡ input → program_text chunks ≡ output_of input
unfolding program_text output_of
program input chunks e =
    ap (λ (t : List ℕ). header_text ++ t)
    (fed_at_once at_start chunks
    ∙ lines_written (joined_chunks chunks) at_start.session []
    ∙ ap (λ (s : List ℕ). written_for at_start.session (lines_of s)) e)
