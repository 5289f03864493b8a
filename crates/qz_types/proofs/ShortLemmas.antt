-- Whether the lists in each form of statement are short.
use Rattle.std.proofs.Common.{◌≡◌, ◌^◌, Bool, true, ◌&&◌, nat_lt, map, Some, None, sym, ap, ◌∙◌}
use Rattle.std.specs.List.{list_all}
use Rattle.std.proofs.lemmas.List.{length-map}
use Rattle.qz_syntax.specs.declared.file_statements.Cond.{Cond}
use Rattle.qz_syntax.specs.declared.file_statements.FileBlock.{FileBlock}
use Rattle.qz_syntax.specs.declared.file_statements.FileStmt.{FileStmt}
use Rattle.qz_syntax.specs.declared.file_statements.FileStmt.TheVariants as stmt
use Rattle.qz_syntax.specs.declared.file_statements.FileStmt.TheOpen.{FileStmt-F}
use Rattle.qz_syntax.specs.declared.file_statements.FileStmt.TheFolds.{fold-roll-FileStmt, fold_out-FileBlock}
use Rattle.qz_types.specs.ShortLists.{is_short, node_is_short, list_is_short, block_is_short, has_short_lists}

pub short-If : (c : Cond) (s : FileStmt) → has_short_lists (stmt.If c s None) ≡ (has_short_lists s && true)
short-If c s = ap has_short_lists (sym (stmt.rolls-If c s None)) ∙ fold-roll-FileStmt Bool Bool node_is_short block_is_short (FileStmt-F.If c s None)

pub short-IfElse : (c : Cond) (s t : FileStmt) → has_short_lists (stmt.If c s (Some t)) ≡ (has_short_lists s && has_short_lists t)
short-IfElse c s t = ap has_short_lists (sym (stmt.rolls-If c s (Some t))) ∙ fold-roll-FileStmt Bool Bool node_is_short block_is_short (FileStmt-F.If c s (Some t))

pub short-Block : (block : FileBlock) → has_short_lists (stmt.Block block) ≡ (is_short block.lists && list_all list_is_short (map (map has_short_lists) block.lists))
short-Block block =
    ap has_short_lists (sym (stmt.rolls-Block block)) ∙ fold-roll-FileStmt Bool Bool node_is_short block_is_short (FileStmt-F.Block block)
    ∙ fold_out-FileBlock Bool Bool node_is_short block_is_short block
    ∙ ap (λ k. nat_lt k (2 ^ 32) && list_all list_is_short (map (map has_short_lists) block.lists)) (length-map block.lists (map has_short_lists))

pub ruleset short_forms = (short-If, short-IfElse, short-Block)
