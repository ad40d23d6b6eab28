-- The laws of a slice of records, for any walk over `&[Channel]` or `&mut [Channel]`.
--     R, vals, size        the record's type, the machine values of a record, and its bytes
--     typed, has           a record's machine value may be stored, and what a record owns is had for nothing
--     fits_at              the byte offset of element i fits
--     looks_at, shuts_at   READ: element i of a `&κ [Channel]` is taken out of what it shares, and put back as it was; κ's token is away in between
--     opens_at, closes_at  WRITE: element i of a `&κ mut [Channel]` is taken out of the borrow, and another record is put in its place; κ's token is
--                          away in between
--     copied               a `&[Channel]` is had twice: once whole, for the exit, and once as what it shares, for the reads
--     kept                 the parts of a `&mut [Channel]` make it whole, at a list of the same length
--     gone                 a local that holds a value is freed
-- Assumes `Logic`.
use mathlib.Core.Path.{◌≡◌, refl, sym, ap, subst}
use Prim.Native.Nat.{ℕ, ◌<◌, ◌*◌, ◌^◌}
use native.Mathlib.Omega.{arith}
use mathlib.Core.List.{[], ◌∷◌, List}
use lib.Dec.{T}
use lib.ListN.{length, get_or, set, length-set}
use seplogic.Ra.Ura.{Ura}
use base.Fraction.{full_share}
use mir.Syntax.{Ty, named}
use mir.Val.{Val, WT, has_ty}
use base.Fml.{Lft, GName, Share, flft, fat, fdies, fhide, fobs, fauth, fbor, fobor}
use prog.Wp.{Env}
use types.Logic.{Logic}
use types.Kit.{Goal, Soaks, Item, ‵, ◌⊛◌, Seq, Step, step, frees, ◌$◌, move, drop, use1, split, fsplit, fjoin}
use types.Run.{forget, free1}
use denote.RattleType.{RattleType}
use denote.Shadow.{pure_i}
use denote.Laws.{Is, shows}
use denote.Memory.{cell_at, shares}
use denote.Opens.{Shut}
use denote.Ref.{Bor}
use denote.Slice.{slice_val, MutSlice, ShrSlice, Room, mut_slice_at, shr_slice_vals, shr_slice_copy, elements_shared, heres, coded_holeys}
use denote.Lend.{Held}
use denote.Index.{place, others, row, elem_out, elem_back, elem_put, opens_slice, closes_slice, looks_slice, shuts_slice}
use denote.Steps.{owned}
use denote.Struct.Laws as LL
use Rattle.receiver.specs.declared.Channel.{Channel}
use Rattle.receiver.specs.contracts.Channel as T
use Rattle.receiver.proofs.Channel.TheLaws as T'

abbrev pub R : RattleType
R = T.the_row

-- the record's MIR type, where it is held by value
abbrev pub ty : Ty
ty = T'.mir

abbrev pub vals : Channel → List Val
vals = LL.vals T.the_type T'.the_laws

abbrev pub val : Channel → Val
val = LL.val T.the_type T'.the_laws

abbrev pub size : ℕ
size = 9

pub fits_at : (n i : ℕ) → Room R n → i < n → i * size < 2 ^ 64
fits_at n i room l = omega (arith, room.1)

module _ {M : Type 1} {𝓤 : Ura M} (𝓛 : Logic 𝓤) where
  pub typed : (c : Channel) → Is R c (vals c) → T (has_ty ty (val c)) × WT (val c)
  typed c is = ((LL.lawful T.the_type T'.the_laws 𝓛).typed c (vals c) is).0

module _ {M : Type 1} {𝓤 : Ura M} {𝓛 : Logic 𝓤} {K : Type 0} {Γ : List (Item 𝓤)} {G : Goal 𝓤 𝓛.H} where
  pub has : K → (c : Channel) → Is R c (vals c) → Step K 𝓛 (‵ (R.own_val c (vals c)) ∷ Γ) G Γ G
  has t c is = owned t R (Is R) (LL.makes T.the_type T'.the_plain 𝓛) c (vals c) is

  pub looks_at : K → Soaks G → {κ : Lft} {q : Share} (ys : List Channel) (i : ℕ) (d : Channel) (b o : ℕ) → i < length ys
      → ((q' : Share) → Is R (get_or ys i d) (vals (get_or ys i d))
      → Seq K 𝓛 (‵ (cell_at q' R.mir (vals (get_or ys i d)) b (place size o i)) ∷ ‵ (R.own_val (get_or ys i d) (vals (get_or ys i d)))
      ∷ ‵ (others (shares R) q' ys i b o) ∷ Shut 𝓛 κ q (row R q' ys b o) ∷ ‵ (fhide (elements_shared R ys b o κ)) ∷ Γ) G)
      → Seq K 𝓛 (‵ (fhide (elements_shared R ys b o κ)) ∷ ‵ (flft κ q) ∷ Γ) G
  looks_at t z ys i d b o l k =
      looks_slice t z R (LL.copied T.the_type T'.the_copy 𝓛) ys b o (λ q'.
      elem_out t R (Is R) (shows 𝓛 R) vals (LL.tells T.the_type T'.the_laws) q' ys i d b o l (k q'))

  pub shuts_at : K → Soaks G → {κ : Lft} {q : Share} (q' : Share) (ys : List Channel) (i : ℕ) (d : Channel) (b o : ℕ) → i < length ys
      → Step K 𝓛 (‵ (flft κ q) ∷ Γ) G
      (‵ (cell_at q' R.mir (vals (get_or ys i d)) b (place size o i)) ∷ ‵ (R.own_val (get_or ys i d) (vals (get_or ys i d)))
      ∷ ‵ (others (shares R) q' ys i b o) ∷ Shut 𝓛 κ q (row R q' ys b o) ∷ Γ) G
  shuts_at t z q' ys i d b o l = step (λ s. elem_back t R q' ys i d (vals (get_or ys i d)) b o l $ shuts_slice t z R q' ys b o $ s)

  pub opens_at : K → Soaks G → {κ : Lft} {q : Share} (ys : List Channel) (i : ℕ) (d : Channel) {γ : GName} (b o : ℕ) → i < length ys
      → Step K 𝓛 (‵ (cell_at full_share R.mir (vals (get_or ys i d)) b (place size o i)) ∷ ‵ (R.own_val (get_or ys i d) (vals (get_or ys i d)))
      ∷ ‵ (others (shares R) full_share ys i b o)
      ∷ ‵ (fobor κ q (Held R (length ys) b o γ)) ∷ ‵ (fobs γ ((coded_holeys R).code (heres R ys))) ∷ ‵ (fauth γ ((coded_holeys R).code (heres R ys))) ∷ Γ)
      G
      (‵ (fobs γ ((coded_holeys R).code (heres R ys))) ∷ ‵ (fbor κ (Held R (length ys) b o γ)) ∷ ‵ (flft κ q) ∷ Γ) G
  opens_at t z ys i d b o l = step (λ s. opens_slice t z R ys b o $
      elem_out t R (Is R) (shows 𝓛 R) vals (LL.tells T.the_type T'.the_laws) full_share ys i d b o l (λ _. s))

  pub closes_at : K → Soaks G → {κ : Lft} {q : Share} (ys : List Channel) (i : ℕ) (d c : Channel) {γ : GName} (b o : ℕ) → i < length ys
      → Is R c (vals c)
      → Step K 𝓛 (‵ (fobs γ ((coded_holeys R).code (heres R (set ys i c)))) ∷ ‵ (fbor κ (Held R (length (set ys i c)) b o γ)) ∷ ‵ (flft κ q) ∷ Γ) G
      (‵ (cell_at full_share R.mir (vals c) b (place size o i)) ∷ ‵ (R.own_val (get_or ys i d) (vals (get_or ys i d)))
      ∷ ‵ (others (shares R) full_share ys i b o)
      ∷ ‵ (fobor κ q (Held R (length ys) b o γ)) ∷ ‵ (fobs γ ((coded_holeys R).code (heres R ys))) ∷ ‵ (fauth γ ((coded_holeys R).code (heres R ys))) ∷ Γ)
      G
  closes_at t z ys i d c b o l is = step (λ s. move t (1 ∷ []) $ drop t $ owned t R (Is R) (LL.makes T.the_type T'.the_plain 𝓛) c (vals c) is $
      move t (1 ∷ 0 ∷ []) $
      elem_put t R full_share ys i c (vals c) b o l $ closes_slice t z R ys (set ys i c) (length-set ys i c) b o $ s)

  pub copied : K → (κ : Lft) (x : Bor (List Channel))
      → Step K 𝓛 (‵ (fhide (elements_shared R x.now x.ref_ptr.0 x.ref_ptr.1 κ)) ∷ ‵ ((ShrSlice (named 0) κ R).own_val x (shr_slice_vals x)) ∷ Γ) G
      (‵ ((ShrSlice (named 0) κ R).own_val x (shr_slice_vals x)) ∷ Γ) G
  copied t κ x = step (λ s. use1 𝓛 (‵ ((ShrSlice (named 0) κ R).own_val x (shr_slice_vals x)) ⊛ ‵ ((ShrSlice (named 0) κ R).own_val x (shr_slice_vals x)))
      ((shr_slice_copy 𝓛 (named 0) κ R T'.the_row_laws.shr_laws).twice x (shr_slice_vals x)) $ split t $ fsplit t $ drop t $ s)

  pub kept : K → {κ : Lft} {γ : GName} (ys zs : List Channel) (b o : ℕ) → Room R (length ys) → length zs ≡ length ys
      → Step K 𝓛 (‵ ((MutSlice (named 0) κ R).own_val (record { ref_ptr = (b, o); ghost_name = γ; now = zs }) (slice_val (b, o) (length ys) ∷ [])) ∷ Γ) G
      (‵ (fobs γ ((coded_holeys R).code (heres R zs))) ∷ ‵ (fbor κ (Held R (length zs) b o γ)) ∷ Γ) G
  kept t {κ} {γ} ys zs b o room l = step (λ s. fjoin t $
      pure_i t (mut_slice_at R (record { ref_ptr = (b, o); ghost_name = γ; now = zs }) (slice_val (b, o) (length ys) ∷ [])) (tt, (tt, tt))
      (ap (λ (m : ℕ). slice_val (b, o) m ∷ []) (sym l), subst (Room R) (sym l) room) $ fjoin t $ s)

module _ {M : Type 1} {𝓤 : Ura M} {𝓛 : Logic 𝓤} {K : Type 0} {Γ : List (Item 𝓤)} where
  open 𝓛 use {H}

  pub gone : K → {τ : Ty} {b : ℕ} {v : Val} {E : Env 𝓤 H} {g : Goal 𝓤 H}
      → Step K 𝓛 Γ (frees E g) (‵ (fat full_share τ b 0 v) ∷ ‵ (fdies τ b) ∷ Γ) (frees ((τ, b) ∷ E) g)
  gone t = step (λ s. forget t 0 refl $ free1 t $ s)
