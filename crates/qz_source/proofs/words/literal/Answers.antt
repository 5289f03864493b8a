use Rattle.std.proofs.Common.{◌≡◌, Some, None, lit<, sym, subst}
use Rattle.std.proofs.lemmas.Str.Pattern.{strip_prefix_char}
use Rattle.qz_source.specs.Spots.{IsNumberText}
use Rattle.qz_source.proofs.Literals.{parts, begins}
use Rattle.qz_source.proofs.words.literal.Goals as goal

pub unreachable-requires : goal.unreachable-requires
unreachable-requires c = parts c.args.text.now c.requires None c.in_default.ensures.cases

pub unreachable-requires-in_default-strip_prefix : goal.unreachable-requires-in_default-strip_prefix
unreachable-requires-in_default-strip_prefix c =
    let cut = parts c.args.text.now c.requires (Some (c.in-Some.width, c.in-Some.rest)) c.in-Some.ensures.cases in
    c.in_default-strip_prefix.ensures.cases c.requires.value (begins c.in-Some.rest.now c.requires.value cut.1)

pub number-requires : goal.number-requires
number-requires c =
    let cut = parts c.args.text.now c.requires (Some (c.in-Some.width, c.in-Some.rest)) c.in-Some.ensures.cases in
    subst IsNumberText (sym cut.0) c.requires.is_width

pub number-requires-2 : goal.number-requires-2
number-requires-2 c =
    let cut = parts c.args.text.now c.requires (Some (c.in-Some.width, c.in-Some.rest)) c.in-Some.ensures.cases in
    let after = strip_prefix_char 100 c.in-Some.rest.now (Some c.in-Some-strip_prefix.value) c.in-Some-strip_prefix.ensures.cases (lit< tt) in
    let same : c.requires.value ≡ c.in-Some-strip_prefix.value.now = cc (cut.1, after) in
    subst IsNumberText same c.requires.is_value
