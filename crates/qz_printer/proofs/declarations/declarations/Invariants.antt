-- What is written, with the words of the declarations that are still to come, is all that is wanted.
use Rattle.std.proofs.Common.{◌≡◌, drop, string_bytes}
use Rattle.std.specs.List.{flat_map}
use Rattle.qz_printer.specs.Declarations.{decl_words}
use Rattle.qz_printer.specs.Writing.{written}
use Rattle.qz_printer.proofs.declarations.declarations.Given as goal

abbrev pub invariant-loop-decl : goal.invariant-loop-decl
invariant-loop-decl l =
    written (string_bytes l.text) (flat_map decl_words (drop l.decl-index l.decls)) ≡ written (string_bytes l.initial.text) (flat_map decl_words l.decls)
