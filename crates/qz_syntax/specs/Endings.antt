-- Which statements may end in the step in which they start. Conditions and values have no part in it.
use Rattle.std.specs.Prelude.{ℕ, Bool, true, false, ◌||◌, List, [], ◌∷◌, ◌++◌, slice_get, unwrap_or, if◌then◌else◌}
use Rattle.std.specs.List.{list_all, flat_map}
use Rattle.qz_syntax.specs.declared.statements.Stmt.{Stmt, map-Stmt}
use Rattle.qz_syntax.specs.declared.statements.Stmt.TheOpen.{Stmt-F}
use Rattle.qz_syntax.specs.declared.statements.Stmt.TheFolds.{fold-Stmt}
use Rattle.qz_syntax.specs.Numbers.{parts_of}

-- one statement, given whether the module of each prototype may end at once
abbrev pub node_may_end : List Bool → Stmt-F Bool → Bool
node_may_end callees Stmt-F.Nothing = true
node_may_end callees (Stmt-F.Assign target value) = true
node_may_end callees (Stmt-F.Delayed target value) = true
node_may_end callees (Stmt-F.Pause place) = false
node_may_end callees (Stmt-F.Seq parts) = list_all (λ part. part) parts
node_may_end callees (Stmt-F.Par parts) = list_all (λ part. part) parts
node_may_end callees (Stmt-F.If condition first second) = first || second
node_may_end callees (Stmt-F.Loop number body condition) = body
node_may_end callees (Stmt-F.Abort kind body condition) = kind.immediate || body
node_may_end callees (Stmt-F.Suspend kind hold body condition) = body
node_may_end callees (Stmt-F.Scope locals body) = body
node_may_end callees (Stmt-F.Call number proto arguments) = unwrap_or (slice_get callees proto) false
node_may_end callees (Stmt-F.Bind bindings body) = body

-- whether a statement may end at once
abbrev pub may_end_of : List Bool → Stmt → Bool
may_end_of callees = fold-Stmt Bool (node_may_end callees)

-- whether a statement may end at once, and the loops in it whose bodies may, in tree order
pub record Ending : Type 0 where
  pub may_end : Bool
  pub instant : List ℕ

-- the loop itself, where its body may end at once
abbrev pub own_instant : Stmt-F Ending → List ℕ
own_instant (Stmt-F.Loop number body condition) = if body.may_end then number ∷ [] else []
own_instant other = []

-- one statement, with that of each part in its place
abbrev pub node_ending : List Bool → Stmt-F Ending → Ending
node_ending callees node = record {
  may_end = node_may_end callees (map-Stmt Ending Bool (λ (part : Ending). part.may_end) node);
  instant = own_instant node ++ flat_map (λ (part : Ending). part.instant) (parts_of node);
}

-- the loops whose bodies may end at once, in tree order
abbrev pub instant_loops : List Bool → Stmt → List ℕ
instant_loops callees s = (fold-Stmt Ending (node_ending callees) s).instant
