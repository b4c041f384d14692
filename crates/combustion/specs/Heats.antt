-- Exhibit C-1: the flammable substances, and what each gives off when it burns (document 02, A7).
-- Assumes nothing.
use Rattle.std.specs.Prelude.{ℕ, map, Bool, Option, Some, None}
use Rattle.search.specs.Places.{among, look_up}
use Rattle.combustion.specs.Printed.{HeatLine, heat}
use Rattle.combustion.specs.PrintedC1.{c1}

-- the CAS number of a line
abbrev pub cas_of : HeatLine → ℕ
cas_of (heat cas hc) = cas

-- and its heat of combustion
abbrev pub heat_in : HeatLine → ℕ
heat_in (heat cas hc) = hc

-- document 01's flammables, "those of Table 13": the 63 substances of Exhibit C-1
unfoldable pub is_flammable : ℕ → Bool
is_flammable cas = among cas (map cas_of c1)

-- "HC is the heat of combustion from Exhibit C-1 in whole kilojoules per kilogram": none for a substance that it does not list
unfoldable pub heat_of : ℕ → Option ℕ
heat_of cas = look_up cas_of (λ line. Some (heat_in line)) cas c1 None
