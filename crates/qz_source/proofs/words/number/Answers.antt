use Rattle.std.proofs.lemmas.Str.Parse.{parse_gives}
use Rattle.qz_source.proofs.Numerals.{own, fits}
use Rattle.qz_source.proofs.words.number.Goals as goal

pub unreachable-requires : goal.unreachable-requires
unreachable-requires c =
    let ok = parse_gives own 128 c.args.digits.now c.parse.result c.parse.ensures.value.0 c.requires.digits c.requires.some (fits c.args.digits.now c.requires) in
    cc (ok, c.in-Err.is)
