use Rattle.std.proofs.Common.{◌≡◌, drop, map}
use Rattle.std.specs.List.{list_all}
use Rattle.qz_types.specs.ShortLists.{has_short_lists, list_is_short}
use Rattle.qz_types.proofs.short_lists.+short.Given as goal

abbrev pub invariant-lists_are_short-loop-list : goal.invariant-lists_are_short-loop-list
invariant-lists_are_short-loop-list l =
    list_all list_is_short (map (map has_short_lists) (drop l.list-index l.list-items)) ≡ list_all list_is_short (map (map has_short_lists) l.list-items)

abbrev pub invariant-statements-loop-s : goal.invariant-statements-loop-s
invariant-statements-loop-s l =
    list_all (λ short. short) (map has_short_lists (drop l.s-index l.list)) ≡ list_all (λ short. short) (map has_short_lists l.list)
