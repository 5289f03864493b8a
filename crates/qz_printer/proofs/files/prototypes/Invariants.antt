-- What is written, with the words of the prototypes that are still to come, is all that is wanted.
use Rattle.std.proofs.Common.{◌≡◌, drop, string_bytes}
use Rattle.std.specs.List.{flat_map}
use Rattle.qz_printer.specs.Files.{proto_words}
use Rattle.qz_printer.specs.Writing.{written}
use Rattle.qz_printer.proofs.files.prototypes.Given as goal

abbrev pub invariant-loop-proto : goal.invariant-loop-proto
invariant-loop-proto l =
    written (string_bytes l.text) (flat_map proto_words (drop l.proto-index l.protos)) ≡ written (string_bytes l.initial.text) (flat_map proto_words l.protos)
