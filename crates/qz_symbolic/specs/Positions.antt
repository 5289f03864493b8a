-- At which number each bit stands among the bits of a system's valuations.
use Rattle.std.specs.Prelude.{ℕ, ◌+◌, ◌<◌, ◌≤◌, ◌≡◌, ◌==◌, nat_lt, List, length, slice_index_or, if◌then◌else◌}
use Rattle.std.specs.List.{flat_map, range_with_len}
use Rattle.qz_system.specs.declared.parts.SystemParts.{SystemParts}
use Rattle.qz_symbolic.specs.Variables.{spots_of_cell, spots_of_input, spots_of_group}

-- where the group of j begins
abbrev pub group_start : SystemParts → ℕ → ℕ
group_start parts j = 1 + length parts.places + length (flat_map (spots_of_group parts) (range_with_len 0 j))

-- where the bits of a cell begin in the group of j, and those of an input
abbrev pub cell_start : SystemParts → ℕ → ℕ → ℕ
cell_start parts j n = group_start parts j + length (flat_map (spots_of_cell parts j) (range_with_len 0 n))

abbrev pub input_start : SystemParts → ℕ → ℕ → ℕ
input_start parts j n =
    cell_start parts j (length parts.cells) + length (flat_map (spots_of_input parts j) (range_with_len 0 n))

-- how many marks a cell has in the group of j, and how many bits a value of this width
abbrev pub mark_size : ℕ → ℕ
mark_size j = if j == 0 then 1 else 0

abbrev pub bit_size : ℕ → ℕ → ℕ
bit_size width j = if nat_lt j width then 1 else 0

-- where the bits of a cell begin in each group
pub record AreCellStarts (parts : SystemParts) (n : ℕ) (starts : List ℕ) : Type 0 where
  pub long : 64 ≤ length starts
  pub each : (j : ℕ) → j < 64 → slice_index_or starts j 0 ≡ cell_start parts j n

-- where the bits of an input begin in each group
pub record AreInputStarts (parts : SystemParts) (n : ℕ) (starts : List ℕ) : Type 0 where
  pub long : 64 ≤ length starts
  pub each : (j : ℕ) → j < 64 → slice_index_or starts j 0 ≡ input_start parts j n
