-- Lines that are written one after the other.
use Rattle.std.proofs.Common.{arith, min, length-drop, ◌≡◌, ℕ, suc, ◌+◌, ◌<◌, List, [], ◌∷◌, ◌++◌, map, length, drop, get_or, codes, refl, sym, ap, ◌∙◌, add-one, append_assoc, append-nil}
use Rattle.std.proofs.Math.Seq.{drop-cons}
use Rattle.std.proofs.lemmas.List.{map-append}
use Rattle.std.proofs.lemmas.List.Concat.{flat_map-append}
use Rattle.std.specs.List.{flat_map}
use Rattle.qz_syntax.specs.declared.declarations.Port.{Port}
use Rattle.qz_verilog.specs.declared.nets.Ref.{Ref}
use Rattle.qz_vtext.specs.Lines.{listed, numbered, output_lines}
use Rattle.qz_vtext.specs.Text.{joined}
use Rattle.qz_vtext.specs.Writing.{later_ports}

pub joined-append : (a b : List (List ℕ)) → joined (a ++ b) ≡ joined a ++ joined b
joined-append a b = flat_map-append (λ line. line ++ codes "\n") a b

-- two lists of lines, and three
pub written2 : (a b : List (List ℕ)) (t t1 t2 : List ℕ) → t1 ≡ t ++ joined a → t2 ≡ t1 ++ joined b → t2 ≡ t ++ joined (a ++ b)
written2 a b t t1 t2 first second =
    second ∙ (ap (λ bs. bs ++ joined b) first ∙ (append_assoc t (joined a) (joined b) ∙ ap (λ bs. t ++ bs) (sym (joined-append a b))))

pub written3 : (a b c : List (List ℕ)) (t t1 t2 t3 : List ℕ) → t1 ≡ t ++ joined a → t2 ≡ t1 ++ joined b → t3 ≡ t2 ++ joined c
    → t3 ≡ t ++ joined (a ++ (b ++ c))
written3 a b c t t1 t2 t3 first second third = written2 a (b ++ c) t t1 t3 first (written2 b c t1 t2 t3 second third)

pub written4 : (a b c d : List (List ℕ)) (t t1 t2 t3 t4 : List ℕ) → t1 ≡ t ++ joined a → t2 ≡ t1 ++ joined b → t3 ≡ t2 ++ joined c
    → t4 ≡ t3 ++ joined d → t4 ≡ t ++ joined (a ++ (b ++ (c ++ d)))
written4 a b c d t t1 t2 t3 t4 first second third fourth =
    written2 a (b ++ (c ++ d)) t t1 t4 first (written3 b c d t1 t2 t3 t4 second third fourth)

-- the lines from one on are its own and those after it
pub numbered_next : {A : Type 0} (lines : ℕ → A → List (List ℕ)) (xs : List A) (n : ℕ) (d : A) → n < length xs
    → numbered lines n (drop n xs) ≡ lines n (get_or xs n d) ++ numbered lines (n + 1) (drop (n + 1) xs)
numbered_next lines xs n d within =
    rw (drop-cons xs n d within)
    (ap (λ k. lines n (get_or xs n d) ++ numbered lines (n + 1) (drop k xs)) (sym (add-one n)))

-- what is written and what is to come, where the next one's lines are written
pub numbered_written : {A : Type 0} (lines : ℕ → A → List (List ℕ)) (xs : List A) (n : ℕ) (d : A) (before after all : List ℕ)
    → n < length xs → before ++ joined (numbered lines n (drop n xs)) ≡ all → after ≡ before ++ joined (lines n (get_or xs n d))
    → after ++ joined (numbered lines (n + 1) (drop (n + 1) xs)) ≡ all
numbered_written lines xs n d before after all within so_far more =
    ap (λ bs. bs ++ joined (numbered lines (n + 1) (drop (n + 1) xs))) more
    ∙ (append_assoc before (joined (lines n (get_or xs n d))) (joined (numbered lines (n + 1) (drop (n + 1) xs)))
    ∙ (ap (λ bs. before ++ bs) (sym (joined-append (lines n (get_or xs n d)) (numbered lines (n + 1) (drop (n + 1) xs))) ∙ ap joined (sym (numbered_next lines xs n d within))) ∙ so_far))

later-append : (a b : List (List ℕ)) → later_ports (a ++ b) ≡ later_ports a ++ later_ports b
later-append a b = flat_map-append (λ line. codes ",\n" ++ line) a b

-- the list of ports, its commas written before each but the first
pub listed_written : (first : List ℕ) (lines : List (List ℕ)) → joined (listed first lines) ≡ first ++ (later_ports lines ++ codes "\n")
listed_written first [] = append-nil _
listed_written first (next ∷ lines) =
    ap (λ bs. ((first ++ codes ",") ++ codes "\n") ++ bs) (listed_written next lines)
    ∙ (ap (λ bs. bs ++ (next ++ (later_ports lines ++ codes "\n"))) (append_assoc first (codes ",") (codes "\n"))
    ∙ (append_assoc first (codes ",\n") (next ++ (later_ports lines ++ codes "\n"))
    ∙ ap (λ bs. first ++ bs) (sym (append_assoc (codes ",\n") next (later_ports lines ++ codes "\n")) ∙ sym (append_assoc (codes ",\n" ++ next) (later_ports lines) (codes "\n")))))

-- the clock's, the inputs' and the outputs' lines
pub ports_written : (inputs outputs : List (List ℕ)) (t t1 t2 t3 t4 : List ℕ) → t1 ≡ t ++ codes "  input clk" → t2 ≡ t1 ++ later_ports inputs
    → t3 ≡ t2 ++ later_ports outputs → t4 ≡ t3 ++ codes "\n" → t4 ≡ t ++ joined (listed (codes "  input clk") (inputs ++ outputs))
ports_written inputs outputs t t1 t2 t3 t4 first second third fourth =
    let clk = codes "  input clk" in
    rw (listed_written clk (inputs ++ outputs), later-append inputs outputs)
    (fourth ∙ ap (λ bs. bs ++ codes "\n") (third ∙ ap (λ bs. bs ++ later_ports outputs) (second ∙ ap (λ bs. bs ++ later_ports inputs) first))
    ∙ ap (λ bs. bs ++ codes "\n") (append_assoc (t ++ clk) (later_ports inputs) (later_ports outputs))
    ∙ append_assoc (t ++ clk) (later_ports inputs ++ later_ports outputs) (codes "\n")
    ∙ append_assoc t clk ((later_ports inputs ++ later_ports outputs) ++ codes "\n"))

-- one port more
pub later_written : {A : Type 0} (line : A → List ℕ) (xs : List A) (n : ℕ) (x : A) (before after all : List ℕ)
    → x ≡ get_or xs n x → n < length xs → before ++ later_ports (map line (drop n xs)) ≡ all → after ≡ before ++ later_ports (line x ∷ [])
    → after ++ later_ports (map line (drop (n + 1) xs)) ≡ all
later_written line xs n x before after all is within so_far more =
    ap (λ bs. bs ++ later_ports (map line (drop (n + 1) xs))) more
    ∙ (append_assoc before (later_ports (line x ∷ [])) (later_ports (map line (drop (n + 1) xs)))
    ∙ (ap (λ bs. before ++ bs) (sym (later-append (line x ∷ []) (map line (drop (n + 1) xs))) ∙ ap (λ ls. later_ports (map line ls)) (step ∙ sym (drop-cons xs n x within))) ∙ so_far))
  where
    step : x ∷ drop (n + 1) xs ≡ get_or xs n x ∷ drop (suc n) xs
    step = ap (λ k. x ∷ drop k xs) (add-one n) ∙ ap (λ y. y ∷ drop (suc n) xs) is

-- what is assigned to a wire
pub assign_written : (number right t t1 t2 t3 : List ℕ) → t1 ≡ t ++ (codes "  assign w_" ++ (number ++ codes " = ")) → t2 ≡ t1 ++ right → t3 ≡ t2 ++ codes ";\n"
    → t3 ≡ t ++ joined ((codes "  assign w_" ++ (number ++ (codes " = " ++ (right ++ codes ";")))) ∷ [])
assign_written number right t t1 t2 t3 first second third =
    third ∙ ap (λ bs. bs ++ codes ";\n") (second ∙ ap (λ bs. bs ++ right) first) ∙ simp (append_assoc, append-nil)

-- what drives an output
pub output_written : (name net t t1 t2 t3 t4 t5 : List ℕ) → t1 ≡ t ++ codes "  assign o_" → t2 ≡ t1 ++ name → t3 ≡ t2 ++ codes " = " → t4 ≡ t3 ++ net
    → t5 ≡ t4 ++ codes ";\n" → t5 ≡ t ++ joined ((codes "  assign o_" ++ (name ++ (codes " = " ++ (net ++ codes ";")))) ∷ [])
output_written name net t t1 t2 t3 t4 t5 first second third fourth fifth =
    fifth ∙ ap (λ bs. bs ++ codes ";\n") (fourth ∙ ap (λ bs. bs ++ net) (third ∙ ap (λ bs. bs ++ codes " = ") (second ∙ ap (λ bs. bs ++ name) first)))
    ∙ simp (append_assoc, append-nil)

-- a block: its first line, some lines, and `end`
pub block_written : (first : List ℕ) (lines : List (List ℕ)) (t t1 t2 t3 : List ℕ) → t1 ≡ t ++ (first ++ codes "\n") → t2 ≡ t1 ++ joined lines
    → t3 ≡ t2 ++ codes "  end\n" → t3 ≡ t ++ joined (first ∷ (lines ++ codes "  end" ∷ []))
block_written first lines t t1 t2 t3 one two three =
    written3 (first ∷ []) lines (codes "  end" ∷ []) t t1 t2 t3 (one ∙ ap (λ bs. t ++ bs) (sym (append-nil (first ++ codes "\n")))) two three

-- where the outputs, or what drives them, have come to an end
pub no_more_outputs : (inputs ports : List Port) (nets : List Ref) (n : ℕ) → n ≡ min (length ports) (length nets)
    → output_lines inputs (drop n ports) (drop n nets) ≡ []
no_more_outputs inputs ports nets n e = by (drop n ports) (drop n nets) (simp length-drop (omega arith))
  where
    by : (ps : List Port) (rs : List Ref) → min (length ps) (length rs) ≡ 0 → output_lines inputs ps rs ≡ []
    by [] rs none = refl
    by (p ∷ ps) [] none = refl
    by (p ∷ ps) (r ∷ rs) none = absurd (omega arith)
