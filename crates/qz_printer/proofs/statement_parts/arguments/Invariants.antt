-- What is written, with the words of the members that are still to come, is all that is wanted.
use Rattle.std.proofs.Common.{◌≡◌, drop, string_bytes}
use Rattle.qz_phrases.specs.declared.words.Mark.TheVariants as mark
use Rattle.qz_printer.specs.Expressions.{expr_words}
use Rattle.qz_printer.specs.Writing.{written, from}
use Rattle.qz_printer.proofs.statement_parts.arguments.Given as goal

abbrev pub invariant-loop-number : goal.invariant-loop-number
invariant-loop-number l =
    written (string_bytes l.text) (from mark.Comma expr_words l.number (drop l.number l.args)) ≡ written (string_bytes l.initial.text) (from mark.Comma expr_words 0 l.args)
