use Rattle.std.proofs.Common.{◌≡◌, ◌++◌, drop}
use Rattle.qz_expand.specs.Texts.{local_text, texts_from}
use Rattle.qz_expand.proofs.texts.local_texts.Given as goal

abbrev pub invariant-loop-number : goal.invariant-loop-number
invariant-loop-number l = l.texts.items ++ texts_from local_text l.number (drop l.number l.decls) ≡ texts_from local_text 0 l.decls
