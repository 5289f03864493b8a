use Rattle.std.proofs.Common.{◌≡◌, List, IfOk, subst}
use Rattle.qz_syntax.specs.declared.files.File.{File}
use Rattle.qz_phrases.specs.declared.words.Spot.{Spot}
use Rattle.qz_reader.specs.Texts.{IsFile, most}
use Rattle.qz_source.proofs.Wholes.{only}
use Rattle.qz_source.proofs.source.read_module.Goals as goal

pub returns-clause-only : goal.returns-clause-only
returns-clause-only c =
    only c.args.bytes.now c.in_ok-words.words.items c.in_ok-words.ensures.only c.file_of.result
    (subst (λ (words : List Spot). IfOk c.file_of.result (λ f. (other : File) → IsFile most words other → other ≡ f)) c.as_slice.ensures.value c.file_of.ensures.only)
