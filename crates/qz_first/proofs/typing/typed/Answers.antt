use Rattle.std.proofs.Common.{◌≡◌, ◌≤◌, IsTrue, length, refl, ◌∙◌}
use Rattle.std.specs.Str.{chars}
use Rattle.std.proofs.lemmas.Result.{err_from_is_err_and}
use Rattle.qz_first.specs.CoreTree.{core_module}
use Rattle.qz_syntax.specs.DoubleNames.{formal_names, are_distinct}
use Rattle.qz_first.specs.Typing.{AreCores, NoCores}
use Rattle.qz_first.proofs.ReadingLemmas.{on_not_built}
use Rattle.qz_first.proofs.CoreLemmas.{not_asked, is_core_module, small_is_asked, small_is_core, large_is_not_asked}
use Rattle.qz_first.proofs.typing.typed.Goals as goal

pub returns-in_err-body-clause-none : goal.returns-in_err-body-clause-none
returns-in_err-body-clause-none c =
    let returned = err_from_is_err_and c.from_residual.result c.from_residual.ensures.1 in
    rw (returned.1, returned.2) (on_not_built c.in_err-body.field-0.0
    (λ (none : IsTrue (are_distinct (formal_names c.args.source.formals)) → NoCores (formal_names c.args.source.formals) c.args.source.body (record { places = 0; loops = 0 })).
    not_asked c.args.name.now c.args.source (record { places = 0; loops = 0 }) refl refl none)
    (rw (← c.as_slice.ensures, ← c.as_slice-2.ensures) c.in_err-body.ensures.none))

pub returns-clause-asked : goal.returns-clause-asked
returns-clause-asked c =
    let head : (c.args.source.name ≡ chars c.args.name.now) × (length c.args.source.formals ≤ 256) = c.has_head.ensures.0 c.if-not-has_head.false in
    let apart : IsTrue (are_distinct (formal_names c.args.source.formals)) = rw (← c.as_slice.ensures) c.in_ok-body.ensures.apart in
    let counted : AreCores (formal_names c.args.source.formals) c.args.source.body (record { places = 0; loops = 0 }) c.in_ok-body.body c.body.new.counts =
    rw (← c.as_slice.ensures, ← c.as_slice-2.ensures) c.in_ok-body.ensures.core in
    let is : c.module_of.result ≡ core_module c.args.source = c.module_of.ensures ∙ rw c.sequence.ensures (is_core_module c.args.source c.in_ok-body.body
    (record { places = 0; loops = 0 }) c.body.new.counts c.in_ok-labels.labels refl refl counted c.in_ok-labels.ensures.labels) in
    small_is_asked c.args.name.now c.args.source c.module_of.result is c.small.result head.0 head.1 apart counted.emits c.small.ensures.small c.small.ensures.same

pub returns-clause-core : goal.returns-clause-core
returns-clause-core c =
    let counted : AreCores (formal_names c.args.source.formals) c.args.source.body (record { places = 0; loops = 0 }) c.in_ok-body.body c.body.new.counts =
    rw (← c.as_slice.ensures, ← c.as_slice-2.ensures) c.in_ok-body.ensures.core in
    let is : c.module_of.result ≡ core_module c.args.source = c.module_of.ensures ∙ rw c.sequence.ensures (is_core_module c.args.source c.in_ok-body.body
    (record { places = 0; loops = 0 }) c.body.new.counts c.in_ok-labels.labels refl refl counted c.in_ok-labels.ensures.labels) in
    small_is_core c.args.name.now c.args.source c.module_of.result is c.small.result c.small.ensures.same

pub returns-clause-none : goal.returns-clause-none
returns-clause-none c =
    let counted : AreCores (formal_names c.args.source.formals) c.args.source.body (record { places = 0; loops = 0 }) c.in_ok-body.body c.body.new.counts =
    rw (← c.as_slice.ensures, ← c.as_slice-2.ensures) c.in_ok-body.ensures.core in
    let is : c.module_of.result ≡ core_module c.args.source = c.module_of.ensures ∙ rw c.sequence.ensures (is_core_module c.args.source c.in_ok-body.body
    (record { places = 0; loops = 0 }) c.body.new.counts c.in_ok-labels.labels refl refl counted c.in_ok-labels.ensures.labels) in
    large_is_not_asked c.args.name.now c.args.source c.module_of.result is c.small.result c.small.ensures.none
