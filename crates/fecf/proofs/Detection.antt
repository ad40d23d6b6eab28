-- A change of a block that is confined to one octet, so every single flipped bit, changes its syndrome.
use mathlib.Core.Path.{◌≡◌, sym, ap, ◌∙◌}
use mathlib.Core.List.{List, [], ◌∷◌, ◌++◌}
use Prim.Native.Nat.{ℕ, ◌%◌, ◌<◌}
use Rattle.base.specs.Octets.{Octets}
use Rattle.base.specs.Register.{register}
use Rattle.fecf.specs.Fecf.{generator, preset, fecf_of, syndrome_of}
use Rattle.fecf.proofs.Table.{octet, octet_lt, octet_same, register_same}
use Rattle.fecf.proofs.Syndrome.{fecf_lt, register_append}

-- different registers stay different over the same octets
apart : (s : List ℕ) (r q : ℕ) → r < 65536 → q < 65536 → Octets s → register 15 generator r s ≡ register 15 generator q s → r ≡ q
unfolding register
apart [] r q hr hq h e = e
apart (o ∷ s) r q hr hq h e =
    register_same r q o hr hq h.0
    (apart s (octet r o) (octet q o) (octet_lt r o hr h.0) (octet_lt q o hq h.0) h.1 e)

split_at : (before after : List ℕ) (o : ℕ) → syndrome_of (before ++ (o ∷ after)) ≡ register 15 generator (octet (fecf_of before) o) after
unfolding syndrome_of fecf_of register
split_at before after o = register_append before (o ∷ after) preset

pub octet_detected : (before after : List ℕ) (o p : ℕ) → Octets before → Octets after → o < 256 → p < 256 → syndrome_of (before ++ (o ∷ after)) ≡ syndrome_of (before ++ (p ∷ after)) → o ≡ p
octet_detected before after o p hb ha ho hp e =
    let r = fecf_of before in
    let hr : fecf_of before < 65536 = fecf_lt before hb in
    octet_same r o p hr ho hp
    (ap (λ (x : ℕ). x % 256)
    (apart after (octet r o) (octet r p) (octet_lt r o hr ho) (octet_lt r p hr hp) ha
    (sym (split_at before after o) ∙ e ∙ split_at before after p)))

-- a block with syndrome zero has another one once an octet of it is another
pub detected : (before after : List ℕ) (o p : ℕ) → Octets before → Octets after → o < 256 → p < 256 → (o ≡ p → ⊥) → syndrome_of (before ++ (o ∷ after)) ≡ 0 → syndrome_of (before ++ (p ∷ after)) ≡ 0 → ⊥
detected before after o p hb ha ho hp d zo zp = d (octet_detected before after o p hb ha ho hp (zo ∙ sym zp))
