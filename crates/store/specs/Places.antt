-- The store of units that the host lends: its places, a unit at its place, units put and removed. Document 01, "FOP-1": "The lent store of
-- units is part of the state."
use Rattle.std.specs.Prelude.{ℕ, zero, suc, ◌+◌, ◌*◌, List, take, drop, get_or}
use Rattle.base.specs.Limits.{largest_unit, largest_k}
use Rattle.memory.specs.Placed.{placed}

-- the places of the store: the sent units of the largest K, and the unit waiting
abbrev pub places : ℕ
places = largest_k + 1

-- the octet at which a place begins
abbrev pub place_offset : ℕ → ℕ
place_offset place = largest_unit * place

-- the unit at a place of the store: as many octets from there as its length says
abbrev pub unit_at : List ℕ → ℕ → List ℕ → List ℕ
unit_at lengths place store = take (get_or lengths place 0) (drop (place_offset place) store)

-- the store with a unit put at a place; every other octet stays as it was
abbrev pub unit_put : ℕ → List ℕ → List ℕ → List ℕ
unit_put place unit store = placed store (place_offset place) unit

-- the store with the unit of place count + i at place i too: of that place the unit's own octets alone, and every other octet stays as it was
abbrev pub moved_down : List ℕ → ℕ → ℕ → List ℕ → List ℕ
moved_down lengths count i store = unit_put i (unit_at lengths (count + i) store) store

-- the store with its `count` oldest units removed: the `staying` units behind them move down, one after another, the oldest first. Where no length
-- is above largest_unit each is read as it stood before (proofs/Laws, `without_unit`), and no other octet changes (`without_octet`).
unfoldable pub without : List ℕ → ℕ → ℕ → List ℕ → List ℕ
without lengths count zero store = store
without lengths count (suc staying) store = moved_down lengths count staying (without lengths count staying store)
