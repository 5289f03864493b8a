-- Limits on what is read.
use Rattle.std.specs.Prelude.{ℕ}

-- bytes of a source
abbrev pub largest_source : ℕ
largest_source = 1048576

-- levels of nested statements, where a module's block has level 1
abbrev pub most_levels : ℕ
most_levels = 128

-- formals of a module
abbrev pub most_formals : ℕ
most_formals = 256

-- units of a module's size
abbrev pub largest_module : ℕ
largest_module = 100000
