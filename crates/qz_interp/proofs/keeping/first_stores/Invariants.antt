use Rattle.std.proofs.Common.{◌≡◌, ◌++◌, map, drop}
use Rattle.qz_meaning.specs.Scenes.{default_store}
use Rattle.qz_interp.specs.Keeping.{output_types}
use Rattle.qz_interp.proofs.keeping.first_stores.Given as goal

abbrev pub invariant-loop-formal : goal.invariant-loop-formal
invariant-loop-formal l =
    l.stores.items ++ map default_store (output_types (drop l.formal-index l.formals)) ≡ map default_store (output_types l.formals)
