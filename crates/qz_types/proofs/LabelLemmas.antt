-- The labels in each form of statement.
use Rattle.std.proofs.Common.{◌≡◌, ℕ, ◌+◌, ◌<◌, length, take, get_or, List, [], ◌∷◌, ◌++◌, map, Option, Some, None, sym, ap, ◌∙◌, append-nil}
use Rattle.std.specs.List.{flat_map}
use Rattle.std.specs.Option.{option_to_list}
use Rattle.std.proofs.Math.Path.{fun_ext}
use Rattle.std.proofs.lemmas.List.{take_more}
use Rattle.std.proofs.lemmas.Grind.{flat_map-append}
use Rattle.std.proofs.lemmas.List.Folds.{flat_map-map}
use Rattle.qz_syntax.specs.declared.file_expressions.NameAt.{NameAt}
use Rattle.qz_syntax.specs.declared.file_statements.Cond.{Cond}
use Rattle.qz_syntax.specs.declared.file_statements.FileBlock.{FileBlock}
use Rattle.qz_syntax.specs.declared.file_statements.FileStmt.{FileStmt}
use Rattle.qz_syntax.specs.declared.file_statements.FileStmt.TheVariants as stmt
use Rattle.qz_syntax.specs.declared.file_statements.FileStmt.TheOpen.{FileStmt-F}
use Rattle.qz_syntax.specs.declared.file_statements.FileStmt.TheFolds.{fold-roll-FileStmt, fold_out-FileBlock}
use Rattle.qz_types.specs.declared.faults.Fault.{Fault}
use Rattle.qz_types.specs.Meanings.{Meanings}
use Rattle.qz_types.specs.Declarations.{Declares, label_names}
use Rattle.qz_types.proofs.DeclarationLemmas.{declares_more, all_named_append}
use Rattle.qz_types.specs.FileFaults.{node_labels, block_labels, labels_of}

abbrev Labels : Type 0
Labels = List NameAt

pub labels-If : (c : Cond) (s : FileStmt) → labels_of (stmt.If c s None) ≡ labels_of s
labels-If c s = ap labels_of (sym (stmt.rolls-If c s None)) ∙ fold-roll-FileStmt Labels Labels node_labels block_labels (FileStmt-F.If c s None) ∙ append-nil (labels_of s)

pub labels-IfElse : (c : Cond) (s t : FileStmt) → labels_of (stmt.If c s (Some t)) ≡ labels_of s ++ labels_of t
labels-IfElse c s t = ap labels_of (sym (stmt.rolls-If c s (Some t))) ∙ fold-roll-FileStmt Labels Labels node_labels block_labels (FileStmt-F.If c s (Some t))

pub labels-Block : (block : FileBlock) → labels_of (stmt.Block block) ≡ flat_map (λ list. flat_map labels_of list) block.lists
labels-Block block =
    let e = ap labels_of (sym (stmt.rolls-Block block)) ∙ fold-roll-FileStmt Labels Labels node_labels block_labels (FileStmt-F.Block block) in
    let f = fold_out-FileBlock Labels Labels node_labels block_labels block in
    let list_is : (list : List FileStmt) → flat_map (λ (labels : Labels). labels) (map labels_of list) ≡ flat_map labels_of list = λ list. flat_map-map (λ (labels : Labels). labels) labels_of list in
    e ∙ f ∙ flat_map-map (λ list. flat_map (λ (labels : Labels). labels) list) (map labels_of) block.lists
    ∙ ap (λ (g : List FileStmt → Labels). flat_map g block.lists) (fun_ext list_is)

-- the labels of one thing more of a list
pub declares_next : {X : Type 0} (labels : X → List NameAt) (xs : List X) (i : ℕ) (x : X) (m n k : Meanings (Unit {0})) (f g h : Option Fault)
    → i < length xs → x ≡ get_or xs i x
    → Declares (label_names (flat_map labels (take i xs))) m n f g → Declares (label_names (labels x)) n k g h
    → Declares (label_names (flat_map labels (take (i + 1) xs))) m k f h
declares_next labels xs i x m n k f g h within is some more =
    let grown : flat_map labels (take (i + 1) xs) ≡ flat_map labels (take i xs) ++ labels x =
    ap (flat_map labels) (take_more xs i x within ∙ ap (λ y. take i xs ++ y ∷ []) (sym is))
    ∙ flat_map-append labels (take i xs) (x ∷ []) ∙ ap (λ ys. flat_map labels (take i xs) ++ ys) (append-nil (labels x)) in
    rw (grown, all_named_append (tt {0}) (flat_map labels (take i xs)) (labels x)) (declares_more (label_names (flat_map labels (take i xs))) (label_names (labels x)) m n k f g h some more)
