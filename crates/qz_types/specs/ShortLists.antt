-- Whether the lists in a file are so short that each member has a number of 32 bits.
use Rattle.std.specs.Prelude.{◌^◌, Bool, true, ◌&&◌, nat_lt, List, length}
use Rattle.std.specs.Option.{option_map_or}
use Rattle.std.specs.List.{list_all}
use Rattle.qz_syntax.specs.declared.file_statements.FileStmt.{FileStmt}
use Rattle.qz_syntax.specs.declared.file_statements.FileStmt.TheOpen.{FileStmt-F, FileBlock-F}
use Rattle.qz_syntax.specs.declared.file_statements.FileStmt.TheFolds.{fold-FileStmt}

-- a list of fewer than 2^32 members
abbrev pub is_short : {X : Type 0} → List X → Bool
is_short xs = nat_lt (length xs) (2 ^ 32)

-- one statement, given whether its parts are short
abbrev pub node_is_short : FileStmt-F Bool Bool → Bool
node_is_short (FileStmt-F.Block block) = block
node_is_short (FileStmt-F.If condition first second) = first && option_map_or (λ short. short) second true
node_is_short (FileStmt-F.DoWhile body condition) = body
node_is_short (FileStmt-F.While condition body) = body
node_is_short (FileStmt-F.Loop body) = body
node_is_short (FileStmt-F.Every condition body) = body
node_is_short (FileStmt-F.Abort kind body condition) = body
node_is_short (FileStmt-F.Suspend kind body condition) = body
node_is_short other = true

-- a list, and each statement in it
abbrev pub list_is_short : List Bool → Bool
list_is_short list = is_short list && list_all (λ short. short) list

-- the lists of a block, and each of them
abbrev pub block_is_short : FileBlock-F Bool Bool → Bool
block_is_short block = is_short block.lists && list_all list_is_short block.lists

-- whether all lists in a statement are short
abbrev pub has_short_lists : FileStmt → Bool
has_short_lists = fold-FileStmt Bool Bool node_is_short block_is_short
