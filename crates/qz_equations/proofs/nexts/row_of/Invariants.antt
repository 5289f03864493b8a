use Rattle.std.proofs.Common.{◌≡◌, ◌++◌, ◌∷◌, map, drop}
use Rattle.qz_equations.specs.declared.tallies.StoreNets.{StoreNets}
use Rattle.qz_equations.proofs.nexts.row_of.Given as goal

abbrev pub invariant-loop-place : goal.invariant-loop-place
invariant-loop-place l = l.row.items ++ drop l.place-index l.places ≡ l.fn.started ∷ l.places

abbrev pub invariant-loop-store : goal.invariant-loop-store
invariant-loop-store l = l.row.items ++ map (λ (s : StoreNets). s.mark) (drop l.store-index l.stores)
    ≡ l.fn.started ∷ (l.places ++ map (λ (s : StoreNets). s.mark) l.stores)

abbrev pub invariant-loop-store-2 : goal.invariant-loop-store-2
invariant-loop-store-2 l = l.row.items ++ map (λ (s : StoreNets). s.value) (drop l.store-index l.stores)
    ≡ l.fn.started ∷ (l.places ++ (map (λ (s : StoreNets). s.mark) l.stores ++ map (λ (s : StoreNets). s.value) l.stores))
