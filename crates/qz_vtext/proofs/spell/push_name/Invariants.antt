-- What is written, with the characters that are still to come, is all that is wanted.
use Rattle.std.proofs.Common.{◌≡◌, ◌++◌, drop, string_bytes}
use Rattle.std.specs.List.{flat_map}
use Rattle.qz_vtext.specs.Names.{character_text}
use Rattle.qz_vtext.proofs.spell.push_name.Given as goal

abbrev pub invariant-loop-character : goal.invariant-loop-character
invariant-loop-character l =
    string_bytes l.text ++ flat_map character_text (drop l.character-index l.character-items)
    ≡ string_bytes l.initial.text ++ flat_map character_text l.character-items
