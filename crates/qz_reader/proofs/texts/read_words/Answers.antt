use Rattle.std.proofs.Common.{◌<◌, ◌≤◌, Err, length, refl, sym, subst}
use Rattle.qz_phrases.specs.Reading.{ReadsSome, Reads}
use Rattle.qz_reader.specs.Files.{a_file}
use Rattle.qz_reader.specs.Texts.{most}
use Rattle.qz_reader.proofs.Wholes.{text_read, text_parse, text_deep, text_goes_on, text_only}
use Rattle.qz_reader.proofs.texts.read_words.Goals as goal

pub returns-then-cursor-words-clause-refused : goal.returns-then-cursor-words-clause-refused
returns-then-cursor-words-clause-refused c =
    let k : ReadsSome a_file most (record { words = c.args.words; read = 0 }) c.file.new.cursor c.in-Ok.found = c.in-Ok.ensures in
    let low : c.file.new.cursor.read < length c.file.new.cursor.words.now = subst (λ ws. c.file.new.cursor.read < length ws) (sym k.it.moves.words) c.if-cursor-words.true in
    text_goes_on (record { words = c.args.words; read = 0 }) c.file.new.cursor c.in-Ok.found refl low k

pub returns-else-cursor-words-clause-found : goal.returns-else-cursor-words-clause-found
returns-else-cursor-words-clause-found c =
    let k : ReadsSome a_file most (record { words = c.args.words; read = 0 }) c.file.new.cursor c.in-Ok.found = c.in-Ok.ensures in
    let past : length c.file.new.cursor.words.now ≤ c.file.new.cursor.read = subst (λ ws. length ws ≤ c.file.new.cursor.read) (sym k.it.moves.words) c.if-cursor-words.false in
    text_read (record { words = c.args.words; read = 0 }) c.file.new.cursor c.in-Ok.found refl past k

pub returns-else-cursor-words-clause-only : goal.returns-else-cursor-words-clause-only
returns-else-cursor-words-clause-only c =
    let k : ReadsSome a_file most (record { words = c.args.words; read = 0 }) c.file.new.cursor c.in-Ok.found = c.in-Ok.ensures in
    text_only (record { words = c.args.words; read = 0 }) c.file.new.cursor c.in-Ok.found refl k

pub returns-in-Err-Parse : goal.returns-in-Err-Parse
returns-in-Err-Parse c = record {
  found = tt;
  only = tt;
  refused = text_parse (record { words = c.args.words; read = 0 }) c.file.new.cursor refl
      (subst (λ why. Reads a_file most (record { words = c.args.words; read = 0 }) c.file.new.cursor (Err why)) c.in-Err-Parse.field-0-is c.in-Err-Parse.ensures);
}

pub returns-in-Err-Deep : goal.returns-in-Err-Deep
returns-in-Err-Deep c = record {
  found = tt;
  only = tt;
  refused = text_deep (record { words = c.args.words; read = 0 }) c.file.new.cursor refl
      (subst (λ why. Reads a_file most (record { words = c.args.words; read = 0 }) c.file.new.cursor (Err why)) c.in-Err-Deep.field-0-is c.in-Err-Deep.ensures);
}
