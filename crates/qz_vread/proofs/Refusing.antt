-- Which line is at fault, where each line was taken just where it can come next.
use Rattle.std.proofs.Common.{◌≡◌, ℕ, ◌+◌, ◌^◌, ◌<◌, true, false, List, [], ◌∷◌, ◌++◌, length, codes, refl, sym, ap, ◌∙◌, subst, append_assoc, append-nil}
use Rattle.qz_verilog.specs.declared.modules.VModule.{VModule}
use Rattle.qz_verilog.specs.Validity.{port_names}
use Rattle.qz_vread.specs.declared.drafts.Draft.{Draft}
use Rattle.qz_vread.specs.declared.drafts.Stage.TheVariants as stage
use Rattle.qz_vread.specs.Parts.{lacks}
use Rattle.qz_vtext.specs.Text.{lines_of, text_of, joined, IsTextOf}
use Rattle.qz_vread.specs.Refusals.{IsModule, Begins, AreLines, IsRefused}
use Rattle.qz_vread.specs.Drafts.{IsStep, Takes}
use Rattle.qz_vread.specs.Drafted.{written, module_of, nothing_read}
use Rattle.qz_vread.specs.Leading.{Path, IsReading}
use Rattle.qz_vtext.proofs.Written.{joined-append}
use Rattle.qz_vread.proofs.Advancing.{advances}
use Rattle.qz_vread.proofs.Wholes.{module_path}
use Rattle.qz_vread.proofs.Finishing.{finish}
use Rattle.qz_vread.proofs.Along.{reached}
use Rattle.qz_vread.proofs.Splitting.{split_once, has_it}
use Rattle.qz_vread.proofs.LineFeeds.{lines_are, After, after_lines}

pub starts : (bytes : List ℕ) → IsReading bytes nothing_read bytes
starts bytes = record {
  whole = refl;
  lines = tt;
  sound = record {
    ports = record { inputs = refl; outputs = refl };
    nets = record { registers = refl; wires = refl };
    outs = record { outs = refl; values = refl; nexts = refl };
  };
  follows = λ m more is e. let P : List (List ℕ) → Type 0 = λ ls. Path nothing_read ls m in subst P e (module_path m is);
}

lines_push : (lines : List (List ℕ)) (line : List ℕ) → AreLines lines → lacks 10 line ≡ true → AreLines (lines ++ line ∷ [])
lines_push [] line all one = (one, tt)
lines_push (l ∷ ls) line all one = (all.0, lines_push ls line all.1 one)

-- the text of some lines and one more
one_line : (lines : List (List ℕ)) (line later : List ℕ) → joined lines ++ (line ++ 10 ∷ later) ≡ joined (lines ++ line ∷ []) ++ later
one_line lines line later =
    sym (ap (λ bs. bs ++ later) (joined-append lines (line ∷ []) ∙ ap (λ bs. joined lines ++ bs) (append-nil (line ++ codes "\n")))
    ∙ append_assoc (joined lines) (line ++ codes "\n") later ∙ ap (λ bs. joined lines ++ bs) (append_assoc line (codes "\n") later))

pub goes_on : (bytes : List ℕ) (d new : Draft) (line later : List ℕ) → IsReading bytes d (line ++ 10 ∷ later) → lacks 10 line ≡ true
    → Takes (IsStep d line) new true → IsReading bytes new later
goes_on bytes d new line later r clean t =
    let step = advances d new line r.sound (t.sound refl) in
    let L : List (List ℕ) → Type 0 = AreLines in
    record {
      whole = r.whole ∙ one_line (written d) line later ∙ ap (λ ls. joined ls ++ later) (sym step.lines);
      lines = subst L (sym step.lines) (lines_push (written d) line r.lines clean);
      sound = step.sound;
      follows = λ m more is e.
          let path = r.follows m (line ∷ more) is (e ∙ ap (λ ls. ls ++ more) step.lines ∙ append_assoc (written d) (line ∷ []) more) in
          let P : Draft → Type 0 = λ n. Path n more m in
          subst P (t.complete path.0 path.1.0).1 path.1.1;
    }

-- where a line can't come next, no text has it there
no_line : (bytes : List ℕ) (d new : Draft) (rest line : List ℕ) (m : VModule) (more : List (List ℕ)) → IsReading bytes d rest → Takes (IsStep d line) new false
    → IsModule m → lines_of m ≡ written d ++ line ∷ more → ⊥
no_line bytes d new rest line m more r t is e =
    let path = r.follows m (line ∷ more) is e in
    let same : false ≡ true = (t.complete path.0 path.1.0).0 in cc

-- the text of more lines
begins_with : (bytes : List ℕ) (d : Draft) (rest : List ℕ) → IsReading bytes d rest → length (port_names (d.ports.inputs ++ d.ports.outputs)) < 2 ^ 27 → Begins (joined (written d))
begins_with bytes d rest r few =
    let f = finish d r.sound few in
    let end = reached d f.lines f.whole r.sound f.path in
    record {
      module_begun = f.whole;
      is_module = end.is;
      rest = joined f.lines;
      begun = ap joined end.text ∙ joined-append (written d) f.lines;
    }

same_line : (line later : List ℕ) (more : List (List ℕ)) → lacks 10 line ≡ true → AreLines more → line ++ 10 ∷ later ≡ joined more → After more (line ∷ []) later
same_line line later more clean lines e =
    after_lines (line ∷ []) more later (clean, tt) lines
    (sym e ∙ sym (ap (λ bs. bs ++ later) (append-nil (line ++ codes "\n")) ∙ append_assoc line (codes "\n") later))

rest_lines : (a b : List (List ℕ)) → AreLines (a ++ b) → AreLines b
rest_lines [] b all = all
rest_lines (l ∷ ls) b all = rest_lines ls b all.1

pub refuses : (bytes : List ℕ) (d new : Draft) (line later : List ℕ) → IsReading bytes d (line ++ 10 ∷ later) → lacks 10 line ≡ true
    → Takes (IsStep d line) new false → length (port_names (d.ports.inputs ++ d.ports.outputs)) < 2 ^ 27 → IsRefused bytes (length (written d) + 1)
refuses bytes d new line later r clean t few = record {
  no_text = no_text;
  before = written d;
  after = line ++ 10 ∷ later;
  lines = r.lines;
  whole = r.whole;
  count = refl;
  begun = begins_with bytes d (line ++ 10 ∷ later) r few;
  none = none;
}
  where
    no_text : (m : VModule) → IsModule m → text_of m ≡ bytes → ⊥
    no_text m is e =
        let first = after_lines (written d) (lines_of m) (line ++ 10 ∷ later) r.lines (lines_are m) (e ∙ r.whole) in
        let L : List (List ℕ) → Type 0 = AreLines in
        let next = same_line line later first.more clean (rest_lines (written d) first.more (subst L first.split (lines_are m))) first.follow in
        no_line bytes d new (line ++ 10 ∷ later) line m next.more r t is (first.split ∙ ap (λ ls. written d ++ ls) next.split)

    none : (text after : List ℕ) → lacks 10 text ≡ true → line ++ 10 ∷ later ≡ text ++ 10 ∷ after → Begins (joined (written d ++ text ∷ [])) → ⊥
    none text after bare e b =
        let same = split_once 10 line text later after clean bare e in
        let first = after_lines (written d ++ text ∷ []) (lines_of b.module_begun) b.rest (lines_push (written d) text r.lines bare) (lines_are b.module_begun) b.begun in
        no_line bytes d new (line ++ 10 ∷ later) line b.module_begun first.more r t b.is_module
        (first.split ∙ append_assoc (written d) (text ∷ []) first.more ∙ ap (λ l. written d ++ l ∷ first.more) (sym same.before))

no_more : (more : List (List ℕ)) → [] ≡ joined more → more ≡ []
no_more [] e = refl
no_more (l ∷ more) e = absurd (nothing l (joined more) (e ∙ append_assoc l (codes "\n") (joined more)))
  where
    nothing : (a b : List ℕ) → [] ≡ a ++ 10 ∷ b → ⊥
    nothing [] b e = cc
    nothing (x ∷ xs) b e = cc

-- bytes that no line feed ends
pub unended : (bytes : List ℕ) (d : Draft) (b : ℕ) (rest : List ℕ) → IsReading bytes d (b ∷ rest) → lacks 10 (b ∷ rest) ≡ true
    → length (port_names (d.ports.inputs ++ d.ports.outputs)) < 2 ^ 27 → IsRefused bytes (length (written d) + 1)
unended bytes d b rest r clean few = record {
  no_text = no_text;
  before = written d;
  after = b ∷ rest;
  lines = r.lines;
  whole = r.whole;
  count = refl;
  begun = begins_with bytes d (b ∷ rest) r few;
  none = λ text after bare e begun. has_it 10 text after (ap (lacks 10) (sym e) ∙ clean);
}
  where
    ends_not : (more : List (List ℕ)) → b ∷ rest ≡ joined more → ⊥
    ends_not [] e = cc
    ends_not (l ∷ more) e = has_it 10 l (joined more) (ap (lacks 10) (sym (e ∙ append_assoc l (codes "\n") (joined more))) ∙ clean)

    no_text : (m : VModule) → IsModule m → text_of m ≡ bytes → ⊥
    no_text m is e =
        let first = after_lines (written d) (lines_of m) (b ∷ rest) r.lines (lines_are m) (e ∙ r.whole) in
        ends_not first.more first.follow

-- a text that ends too early
pub early : (bytes : List ℕ) (d : Draft) → IsReading bytes d [] → (d.stage ≡ stage.Nothing → ⊥)
    → length (port_names (d.ports.inputs ++ d.ports.outputs)) < 2 ^ 27 → IsRefused bytes (length (written d) + 1)
early bytes d r open_end few = record {
  no_text = no_text;
  before = written d;
  after = [];
  lines = r.lines;
  whole = r.whole;
  count = refl;
  begun = begins_with bytes d [] r few;
  none = λ text after bare e begun. nothing text after e;
}
  where
    nothing : (a b : List ℕ) → [] ≡ a ++ 10 ∷ b → ⊥
    nothing [] b e = cc
    nothing (x ∷ xs) b e = cc

    no_text : (m : VModule) → IsModule m → text_of m ≡ bytes → ⊥
    no_text m is e =
        let first = after_lines (written d) (lines_of m) [] r.lines (lines_are m) (e ∙ r.whole) in
        let path : Path d [] m = r.follows m [] is (first.split ∙ ap (λ ls. written d ++ ls) (no_more first.more first.follow)) in
        open_end path.0

-- a text of which the last line was read
pub ends : (bytes : List ℕ) (d : Draft) → IsReading bytes d [] → d.stage ≡ stage.Nothing → IsModule (module_of d) × IsTextOf (module_of d) bytes
ends bytes d r e =
    let end = reached d [] (module_of d) r.sound (e, refl) in (
      end.is,
      record {
        valid = end.is.valid;
        written = r.whole ∙ append-nil (joined (written d)) ∙ ap joined (sym (end.text ∙ append-nil (written d)));
      },
    )
