-- One octet, and a chunk octet by octet, as the code takes them.
use mathlib.Core.Path.{◌≡◌, refl, sym, ap, ap₂, ◌∙◌}
use mathlib.Core.List.{List, [], ◌∷◌, ◌++◌, append_assoc, append-nil}
use Prim.Native.Nat.{ℕ, ◌+◌, ◌-◌, ◌*◌, ◌<◌, ◌≤◌}
use native.Mathlib.Numerals.{add-one}
use native.Mathlib.Omega.{arith}
use borrow.Author.Tests.{le-leb, lt-leb, eq-eqb, ne_eqb}
use lib.ListN.{length, take, drop, get_or, length-append, length-drop, drop_of_length-le}
use lib.Seq.{take-suc, take_all, take_at, drop_at, drop-drop}
use Rattle.std.specs.Prelude.{Result, Ok, Err}
use Rattle.base.specs.declared.Refusal.{Refusal}
use Rattle.base.specs.Outcome.{Outcome.done, Outcome.refused, answer, after, count_of}
use Rattle.base.specs.Refusals.{written_answer}
use Rattle.base.proofs.Lists.{rest}
use Rattle.text.specs.Answers.{written}
use Rattle.text.proofs.Outcomes.{told_ok, written_done}
use Rattle.program_rows.specs.Rows.{text_of}
use Rattle.program_rows.specs.Rows.{row_room}
use Rattle.program_console.specs.Feed.{Progress, end_of, octet_next, octet_text, chunk_next, chunk_text, last_text, feeding, fed_next}

-- octets behind octets
pub next_append : (p : Progress) (xs ys : List ℕ) → chunk_next p (xs ++ ys) ≡ chunk_next (chunk_next p xs) ys
unfolding chunk_next
next_append p [] ys = refl
next_append p (x ∷ xs) ys = next_append (octet_next p x) xs ys

pub text_append : (p : Progress) (xs ys : List ℕ) → chunk_text p (xs ++ ys) ≡ chunk_text p xs ++ chunk_text (chunk_next p xs) ys
unfolding chunk_text chunk_next
text_append p [] ys = refl
text_append p (x ∷ xs) ys =
    ap (λ (t : List ℕ). octet_text p x ++ t) (text_append (octet_next p x) xs ys)
    ∙ sym (append_assoc (octet_text p x) (chunk_text (octet_next p x) xs) (chunk_text (chunk_next (octet_next p x) xs) ys))

-- octets taken, their rows at the front of the output
pub record Taken (p : Progress) (chunk old : List ℕ) (count : ℕ) (next : Progress) (out : List ℕ) (place : ℕ) : Type 0 where
  pub progressed : next ≡ chunk_next p (take count chunk)
  pub memory : out ≡ chunk_text p (take count chunk) ++ drop place old
  pub behind : place ≡ length (chunk_text p (take count chunk))
  pub most : place ≤ count * row_room

pub taken_none : (p : Progress) (chunk old : List ℕ) → Taken p chunk old 0 p old 0
unfolding chunk_next chunk_text
taken_none p chunk old = record { progressed = refl; memory = refl; behind = refl; most = omega arith }

-- one octet more, its row at the front of what is left
module _ (p : Progress) (chunk old : List ℕ) (room : length chunk * row_room ≤ length old) (i : ℕ) (next : Progress) (out : List ℕ) (place : ℕ) (h : i < length chunk)
    (whole : length out ≡ length old) (t : Taken p chunk old i next out place) where
  abbrev pub left : List ℕ
  left = take (length out - place) (drop place out)

  row_fits : (row : List ℕ) → length row ≤ row_room → length row ≤ length left
  row_fits row k = omega (arith, ap length (rest out place) ∙ length-drop place out, t.most)

  module _ (w : Result ℕ Refusal) (k : length (octet_text next (get_or chunk i 0)) ≤ row_room)
      (e : written_answer w ≡ answer (written (octet_text next (get_or chunk i 0)) (length left))) where
    pub never_refused : (refusal : Refusal) → w ≡ Err refusal → ⊥
    never_refused refusal is =
        let z : ◌≡◌ {A = Result ℕ Refusal} (Err refusal) (Ok (length (octet_text next (get_or chunk i 0)))) =
        sym is ∙ told_ok (octet_text next (get_or chunk i 0)) (length left) w (row_fits (octet_text next (get_or chunk i 0)) k) e in
        cc

    pub taken_on : (count : ℕ) → w ≡ Ok count → (part : List ℕ) → part ≡ after (written (octet_text next (get_or chunk i 0)) (length left)) left
        → (next' : Progress) → next' ≡ octet_next next (get_or chunk i 0)
        → Taken p chunk old (i + 1) next' (take place out ++ (part ++ drop (length out - place) (drop place out))) (place + count)
    unfolding chunk_next chunk_text
    taken_on count is part m next' q =
        let x = get_or chunk i 0 in
        let row = octet_text next x in
        let f = row_fits row k in
        let rows = chunk_text p (take i chunk) in
        let n : count ≡ length row = ap (λ (v : Result ℕ Refusal). count_of (written_answer v)) (sym is ∙ told_ok row (length left) w f e) in
        let front : take place out ≡ rows = ap (take place) t.memory ∙ take_at rows (drop place old) place (sym t.behind) in
        let behind : drop place out ≡ drop place old = ap (drop place) t.memory ∙ drop_at rows (drop place old) place (sym t.behind) in
        let on : part ≡ row ++ drop (place + length row) old =
        m
        ∙ ap (λ o. after o left) (written_done row (length left) f)
        ∙ ap (λ (u : List ℕ). row ++ drop (length row) u) (rest out place ∙ behind)
        ∙ ap (λ (u : List ℕ). row ++ u) (drop-drop (length row) place old) in
        let none : drop (length out - place) (drop place out) ≡ [] = drop_of_length-le (drop place out) {i = length out - place} (omega (arith, length-drop place out)) in
        let more : take (i + 1) chunk ≡ take i chunk ++ (x ∷ []) = rw (add-one, take-suc chunk i 0 h) in
        let all : chunk_text p (take (i + 1) chunk) ≡ rows ++ row =
        ap (chunk_text p) more
        ∙ text_append p (take i chunk) (x ∷ [])
        ∙ ap (λ (u : List ℕ). rows ++ u) (append-nil (octet_text (chunk_next p (take i chunk)) x))
        ∙ ap (λ (v : Progress). rows ++ octet_text v x) (sym t.progressed) in
        record {
          progressed = q ∙ ap (λ (v : Progress). octet_next v x) t.progressed ∙ sym (ap (chunk_next p) more ∙ next_append p (take i chunk) (x ∷ []));
          memory =
              ap₂ (λ (u v : List ℕ). take place out ++ (u ++ v)) on none
              ∙ ap₂ (λ (u v : List ℕ). u ++ v) front (append-nil (row ++ drop (place + length row) old))
              ∙ sym (append_assoc rows row (drop (place + length row) old))
              ∙ ap₂ (λ (u : List ℕ) (v : ℕ). u ++ drop (place + v) old) (sym all) (sym n);
          behind = omega (arith, n, t.behind, ap length all ∙ length-append rows row);
          most = omega (arith, t.most, n, k);
        }

pub taken_all : (p : Progress) (chunk old : List ℕ) (i : ℕ) (next : Progress) (out : List ℕ) (place : ℕ) → i ≡ length chunk → Taken p chunk old i next out place
    → (place ≡ length (chunk_text p chunk)) × (out ≡ chunk_text p chunk ++ drop (length (chunk_text p chunk)) old) × (next ≡ chunk_next p chunk)
taken_all p chunk old i next out place e t =
    let a : take i chunk ≡ chunk = take_all i chunk (omega arith) in
    let b : place ≡ length (chunk_text p chunk) = t.behind ∙ ap (λ (s : List ℕ). length (chunk_text p s)) a in
    (b, t.memory ∙ ap₂ (λ (s : List ℕ) (k : ℕ). chunk_text p s ++ drop k old) a b, t.progressed ∙ ap (chunk_next p) a)

-- a chunk with lent output
module _ (p : Progress) (chunk : List ℕ) (room : ℕ) where
  pub fed_done : length chunk * row_room ≤ room → feeding p chunk room ≡ done (chunk_text p chunk) tt
  unfolding feeding
  fed_done h = rw (le-leb (length chunk * row_room) room h)

  pub fed_next_lem : length chunk * row_room ≤ room → fed_next p chunk room ≡ chunk_next p chunk
  unfolding fed_next
  fed_next_lem h = rw (le-leb (length chunk * row_room) room h)

  pub fed_short : room < length chunk * row_room → feeding p chunk room ≡ refused 11 0
  unfolding feeding
  fed_short h = rw (lt-leb (length chunk * row_room) room h)

  pub fed_same : room < length chunk * row_room → fed_next p chunk room ≡ p
  unfolding fed_next
  fed_same h = rw (lt-leb (length chunk * row_room) room h)

-- the end of the input
pub last_none : (p : Progress) → length p.line ≡ 0 → last_text p ≡ []
unfolding last_text
last_none p h = rw (eq-eqb (length p.line) 0 h)

pub last_some : (p : Progress) → (length p.line ≡ 0 → ⊥) → last_text p ≡ text_of (end_of p).output
unfolding last_text
last_some p h = rw (ne_eqb (length p.line) 0 h)
