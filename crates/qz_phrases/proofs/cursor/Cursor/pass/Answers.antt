use Rattle.std.proofs.Common.{◌≡◌, ◌≢◌, sym, refl, rules}
use denote.Enum.Bare.{differs_false}
use Rattle.qz_phrases.specs.contracts.words.Mark.{the_type}
use Rattle.qz_phrases.proofs.Tokens.{mark_read, mark_lacks, no_mark_lacks}
use Rattle.qz_phrases.proofs.cursor.Cursor.pass.Goals as goal

pub returns : goal.returns
returns c =
    let same : c.in-Mark.next ≡ c.args.mark = differs_false the_type (search rules) c.in-Mark.next c.args.mark (sym c.if-ne.ensures) in
    mark_read c.args.mark c.in-Mark.next c.index-self-self.result c.if-self.false c.in-Mark.is same refl refl

pub returns-then-ne : goal.returns-then-ne
returns-then-ne c =
    let differs : c.in-Mark.next ≢ c.args.mark = search rules in
    mark_lacks c.args.mark c.in-Mark.next c.index-self-self.result c.if-self.false c.in-Mark.is differs

pub returns-in_default : goal.returns-in_default
returns-in_default c = no_mark_lacks c.args.mark c.index-self-self.result c.if-self.false (let h = c.in_default in h.not-Mark)
