-- Octets put into a buffer that has room for them.
use mathlib.Core.Path.{◌≡◌}
use mathlib.Core.List.{List, ◌++◌}
use Prim.Native.Nat.{ℕ, ◌+◌, ◌≤◌}
use borrow.Author.Tests.{le-leb}
use lib.ListN.{length}
use Rattle.text.specs.Buffer.{put_behind}

pub put_fits : (room : ℕ) (old octets : List ℕ) → length old + length octets ≤ room → put_behind room old octets ≡ old ++ octets
put_fits room old octets h = simp (le-leb (length old + length octets) room h)
