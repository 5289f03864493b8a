-- How deep the statements of a file stand in one another.
use Rattle.std.specs.Prelude.{ℕ, ◌+◌, ◌≤◌, max, fold, map, List}
use Rattle.std.specs.Option.{option_map_or}
use Rattle.qz_syntax.specs.declared.file_statements.FileStmt.{FileStmt}
use Rattle.qz_syntax.specs.declared.file_statements.FileStmt.TheOpen.{FileStmt-F, FileBlock-F}
use Rattle.qz_syntax.specs.declared.file_statements.FileStmt.TheFolds.{fold-FileStmt}
use Rattle.qz_syntax.specs.declared.files.File.{File}
use Rattle.qz_types.specs.FileFaults.{body_of}

-- the most of some levels
abbrev pub most : List ℕ → ℕ
most levels = fold max 0 levels

-- a statement has one level more than what stands in it; a block as a statement is one statement
abbrev pub node_levels : FileStmt-F ℕ ℕ → ℕ
node_levels (FileStmt-F.Block block) = block
node_levels (FileStmt-F.If condition first second) = 1 + max first (option_map_or (λ levels. levels) second 0)
node_levels (FileStmt-F.DoWhile body condition) = 1 + body
node_levels (FileStmt-F.While condition body) = 1 + body
node_levels (FileStmt-F.Loop body) = 1 + body
node_levels (FileStmt-F.Every condition body) = 1 + body
node_levels (FileStmt-F.Abort kind body condition) = 1 + body
node_levels (FileStmt-F.Suspend kind body condition) = 1 + body
node_levels other = 1

abbrev pub block_levels : FileBlock-F ℕ ℕ → ℕ
block_levels block = 1 + most (map most block.lists)

-- how many levels of statements a statement has
abbrev pub levels_of : FileStmt → ℕ
levels_of = fold-FileStmt ℕ ℕ node_levels block_levels

-- a file whose statements stand in one another at most so deep as a text may nest them
pub record IsBounded (file : File) : Type 0 where
  pub levels : levels_of (body_of file) ≤ 128
