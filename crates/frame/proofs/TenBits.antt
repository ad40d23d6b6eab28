-- Reading never answers 10. The header has ten bits of length, so it says no more octets than the largest frame has (`says_most`); document 01's
-- order of checks with its 10 at that limit gives what `refusal_of` gives, for any octets (`limit_idle`), and that is never 10 (`never_length`).
use mathlib.Core.Path.{◌≡◌, refl, ap}
use mathlib.Core.Bool.{Bool, true, false}
use mathlib.Core.List.{List}
use Prim.Native.Nat.{ℕ, ◌+◌, ◌≤◌}
use native.Mathlib.Omega.{arith}
use borrow.Author.Tests.{leb-true, le-leb}
use lib.Dec.{leb, eqb}
use lib.ListN.{length, take}
use Rattle.base.specs.Choice.{must}
use Rattle.base.specs.Limits.{smallest_frame, largest_frame}
use Rattle.base.specs.Octets.{Octets}
use Rattle.base.proofs.Lists.{octets_at_lem}
use Rattle.base.specs.Fields.{field_at}
use Rattle.fecf.specs.Fecf.{syndrome_of}
use Rattle.frame_header.specs.Header.{spacecraft_identifier, virtual_channel_identifier, valid_header}
use Rattle.frame.specs.Frame.{total_of, command_held, header_refusal, content_refusal, refusal_of}
use Rattle.frame.proofs.Octets.{total_most}

-- document 01's whole order 4, 4, 10, 4, 5, 8, 6, 7, 9, the 10 at the largest frame
unfoldable pub limited_refusal : List ℕ → ℕ → ℕ → ℕ
limited_refusal octets spacecraft channel =
    must (leb smallest_frame (length octets)) 4
    (must (leb smallest_frame (total_of octets)) 4
    (must (leb (total_of octets) largest_frame) 10
    (must (leb (total_of octets) (length octets)) 4
    (must (leb (length octets) (total_of octets + 6)) 5
    (content_refusal octets (total_of octets) spacecraft channel)))))

-- a check that answers another number
other : (t : Bool) (number on : ℕ) → (number ≡ 10 → ⊥) → (on ≡ 10 → ⊥) → must t number on ≡ 10 → ⊥
other true number on a b e = b e
other false number on a b e = a e

module _ (octets : List ℕ) (spacecraft channel : ℕ) where
  pub never_length : refusal_of octets spacecraft channel ≡ 10 → ⊥
  unfolding refusal_of content_refusal header_refusal
  never_length =
      other (leb smallest_frame (length octets)) 4 _ (λ e. omega arith)
      (other (leb smallest_frame (total_of octets)) 4 _ (λ e. omega arith)
      (other (leb (total_of octets) (length octets)) 4 _ (λ e. omega arith)
      (other (leb (length octets) (total_of octets + 6)) 5 _ (λ e. omega arith)
      (other (eqb (syndrome_of (take (total_of octets) octets)) 0) 8 _ (λ e. omega arith)
      (other (valid_header octets) 6 _ (λ e. omega arith)
      (other (eqb (field_at spacecraft_identifier octets) spacecraft) 7 _ (λ e. omega arith)
      (other (eqb (field_at virtual_channel_identifier octets) channel) 7 _ (λ e. omega arith)
      (other (command_held octets (total_of octets)) 9 0 (λ e. omega arith) (λ e. omega arith)))))))))

  module _ (h : Octets octets) where
    pub says_most : smallest_frame ≤ length octets → total_of octets ≤ largest_frame
    says_most enough = total_most octets (octets_at_lem octets h) enough

    pub limit_idle : limited_refusal octets spacecraft channel ≡ refusal_of octets spacecraft channel
    unfolding limited_refusal refusal_of
    limit_idle = go (leb smallest_frame (length octets)) refl (must (leb (total_of octets) (length octets)) 4 _)
      where
        idle : smallest_frame ≤ length octets → (x : ℕ) → must (leb (total_of octets) largest_frame) 10 x ≡ x
        idle l x = ap (λ (b : Bool). must b 10 x) (le-leb (total_of octets) largest_frame (says_most l))

        behind : Bool → ℕ → ℕ
        behind b x = must b 4 (must (leb smallest_frame (total_of octets)) 4 x)

        go : (b : Bool) → leb smallest_frame (length octets) ≡ b → (x : ℕ) → behind b (must (leb (total_of octets) largest_frame) 10 x) ≡ behind b x
        go true e x = ap (behind true) (idle (leb-true smallest_frame (length octets) e) x)
        go false e x = refl
