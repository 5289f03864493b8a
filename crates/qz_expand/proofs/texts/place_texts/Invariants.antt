use Rattle.std.proofs.Common.{◌≡◌, ◌++◌, drop}
use Rattle.qz_expand.specs.Texts.{place_text, texts_from}
use Rattle.qz_expand.proofs.texts.place_texts.Given as goal

abbrev pub invariant-loop-number : goal.invariant-loop-number
invariant-loop-number l = l.texts.items ++ texts_from place_text l.number (drop l.number l.labels) ≡ texts_from place_text 0 l.labels
