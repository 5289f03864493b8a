-- Ports are found by how their names are spelled.
use Rattle.std.proofs.Common.{arith, length-append, ◌≡◌, ◌↔◌, ℕ, zero, suc, ◌+◌, ◌<◌, ◌≤◌, Bool, true, false, not, ◌||◌, List, [], ◌∷◌, ◌++◌, length, map, Option, Some, None, IsSome, refl, sym, ap, ap₂, ◌∙◌, cond}
use Rattle.std.specs.Prelude.{slice_get}
use Rattle.std.specs.List.{AllByRecursion, list_any, position, position_from}
use Rattle.std.specs.Str.{bytes_eq}
use Rattle.std.specs.Global.{Vec}
use Rattle.std.specs.Option.{option_to_list}
use Rattle.std.proofs.lemmas.Bool.{and_parts, or_left, or_right, not-true, false_from_ne_true, both_ways, cond-true, cond-false, false≢true}
use Rattle.std.proofs.lemmas.Iterator.Adapters.{position_from-zero}
use Rattle.std.proofs.lemmas.List.{map-append}
use Rattle.std.proofs.lemmas.Slice.Eq.{bytes_eq-Decides}
use Rattle.qz_syntax.specs.declared.declarations.Port.{Port}
use Rattle.qz_syntax.specs.DoubleNames.{is_among, are_distinct}
use Rattle.qz_verilog.specs.Validity.{port_names}
use Rattle.qz_vtext.specs.Names.{name_text}
use Rattle.qz_vtext.specs.Spelling.{port_text}
use Rattle.qz_vread.specs.Naming.{IsNamed}
use Rattle.qz_vread.specs.PortLists.{AreSpelled}
use Rattle.qz_vread.specs.Reading.{Finds}
use Rattle.qz_vread.specs.Unspelling.{unspelled}
use Rattle.qz_vread.proofs.Unspelling.{spelled_is_read}
use Rattle.qz_vread.proofs.Advancing.{distinct_push, all_push}

-- a name has one spelling
pub spelled_once : (a b : List ℕ) → IsNamed a → IsNamed b → name_text a ≡ name_text b → a ≡ b
spelled_once a b x y e = let same : Some a ≡ Some b = sym (spelled_is_read a x.text) ∙ ap unspelled e ∙ spelled_is_read b y.text in cc

same_test : (a b : List ℕ) → IsNamed a → IsNamed b → bytes_eq (name_text a) (name_text b) ≡ bytes_eq b a
same_test a b x y = by (bytes_eq b a) refl
  where
    by : (t : Bool) → bytes_eq b a ≡ t → bytes_eq (name_text a) (name_text b) ≡ bytes_eq b a
    by true e = (bytes_eq-Decides (name_text a) (name_text b)).1 (ap name_text (sym ((bytes_eq-Decides b a).0 e))) ∙ sym e
    by false e =
        false_from_ne_true (bytes_eq (name_text a) (name_text b))
        (λ same. both_ways (bytes_eq b a) e ((bytes_eq-Decides b a).1 (sym (spelled_once a b x y ((bytes_eq-Decides (name_text a) (name_text b)).0 same)))))
        ∙ sym e

-- a name is among names where its spelling is among theirs
pub among_spelled : (names : List (List ℕ)) (name : List ℕ) → AllByRecursion IsNamed names → IsNamed name
    → list_any (bytes_eq (name_text name)) (map name_text names) ≡ is_among names name
among_spelled [] name are is = refl
among_spelled (first ∷ names) name are is = ap₂ (λ a b. a || b) (same_test name first is are.0) (among_spelled names name are.1 is)

pub any_map : {K : Type 0} (f : K → List ℕ) (test : List ℕ → Bool) (keys : List K) → list_any (λ key. test (f key)) keys ≡ list_any test (map f keys)
any_map f test [] = refl
any_map f test (key ∷ keys) = ap (λ b. test (f key) || b) (any_map f test keys)

from_map : {K : Type 0} (f : K → List ℕ) (test : List ℕ → Bool) (i : ℕ) (keys : List K)
    → position_from (λ key. test (f key)) i keys ≡ position_from test i (map f keys)
from_map f test i [] = refl
from_map f test i (key ∷ keys) = ap (λ o. cond (test (f key)) (Some i) o) (from_map f test (i + 1) keys)

pub position_map : {K : Type 0} (f : K → List ℕ) (test : List ℕ → Bool) (keys : List K)
    → position (λ key. test (f key)) keys ≡ position_from test 0 (map f keys)
position_map f test keys = position_from-zero (λ key. test (f key)) keys ∙ from_map f test 0 keys

among_at : (names : List (List ℕ)) (k : ℕ) (first name : List ℕ) → name ≡ first → slice_get names k ≡ Some name → is_among names first ≡ true
among_at [] k first name same e = absurd cc
among_at (x ∷ names) zero first name same e = or_left (bytes_eq x first) (is_among names first) ((bytes_eq-Decides x first).1 (let is : x ≡ name = cc in is ∙ same))
among_at (x ∷ names) (suc k) first name same e = or_right (bytes_eq x first) (is_among names first) (among_at names k first name same e)

-- the place of a name's spelling
found_at : (names : List (List ℕ)) (name : List ℕ) (i k : ℕ) → AllByRecursion IsNamed names → are_distinct names ≡ true → IsNamed name → slice_get names k ≡ Some name
    → position_from (bytes_eq (name_text name)) i (map name_text names) ≡ Some (i + k)
found_at [] name i k are apart is e = absurd cc
found_at (first ∷ names) name i zero are apart is e =
    let same : first ≡ name = cc in
    cond-true (bytes_eq (name_text name) (name_text first)) (Some i) _ ((bytes_eq-Decides (name_text name) (name_text first)).1 (ap name_text (sym same))) ∙ ap (λ n. Some n) (omega arith)
found_at (first ∷ names) name i (suc k) are apart is e =
    let parts = and_parts (not (is_among names first)) (are_distinct names) apart in
    cond-false (bytes_eq (name_text name) (name_text first)) (Some i) _
    (false_from_ne_true (bytes_eq (name_text name) (name_text first)) (λ t.
    both_ways (is_among names first) (not-true (is_among names first) parts.0)
    (among_at names k first name (spelled_once name first is are.0 ((bytes_eq-Decides (name_text name) (name_text first)).0 t)) e)))
    ∙ found_at names name (i + 1) k are.1 parts.1 is e
    ∙ ap (λ n. Some n) (omega arith)

record FoundAt (test : List ℕ → Bool) (xs : List (List ℕ)) (i at : ℕ) : Type 0 where
  place : ℕ
  is : at ≡ i + place
  item : List ℕ
  there : slice_get xs place ≡ Some item
  passes : test item ≡ true

found_is : (test : List ℕ → Bool) (xs : List (List ℕ)) (i at : ℕ) → position_from test i xs ≡ Some at → FoundAt test xs i at
found_is test [] i at e = absurd cc
found_is test (x ∷ xs) i at e = by (test x) refl e (found_is test xs (i + 1) at)
  where
    by : (t : Bool) → test x ≡ t → cond t (Some i) (position_from test (i + 1) xs) ≡ Some at → (position_from test (i + 1) xs ≡ Some at → FoundAt test xs (i + 1) at)
        → FoundAt test (x ∷ xs) i at
    by true passes e more = record { place = 0; is = (let same : i ≡ at = cc in omega arith); item = x; there = refl; passes = passes }
    by false fails e more =
        let later = more e in
        record { place = suc later.place; is = (let is = later.is in omega arith); item = later.item; there = later.there; passes = later.passes }

-- what is spelled at a place is the name of the port there
record SpelledAt (ports : List Port) (k : ℕ) (text : List ℕ) : Type 0 where
  below : k < length ports
  is : text ≡ port_text ports k

spelled_at : (ports : List Port) (k : ℕ) (text : List ℕ) → slice_get (map name_text (port_names ports)) k ≡ Some text → SpelledAt ports k text
spelled_at [] k text e = absurd cc
spelled_at (p ∷ ports) zero text e = record { below = omega arith; is = cc }
spelled_at (p ∷ ports) (suc k) text e = let later = spelled_at ports k text e in record { below = (let b = later.below in omega arith); is = later.is }

record NamedAt (ports : List Port) (k : ℕ) : Type 0 where
  name : List ℕ
  there : slice_get (port_names ports) k ≡ Some name
  named : IsNamed name
  spelled : port_text ports k ≡ name_text name

named_at : (ports : List Port) (k : ℕ) → AllByRecursion IsNamed (port_names ports) → k < length ports → NamedAt ports k
named_at [] k are below = absurd (omega arith)
named_at (p ∷ ports) zero are below = record { name = p.name; there = refl; named = are.0; spelled = refl }
named_at (p ∷ ports) (suc k) are below =
    let later = named_at ports k are.1 (omega arith) in
    record { name = later.name; there = later.there; named = later.named; spelled = later.spelled }

abbrev pub FindsPort : List Port → List ℕ → Option ℕ → Type 0
FindsPort ports text found = Finds (λ n. n < length ports) (λ n. text ≡ port_text ports n) found

pub finds_port : (ports : List Port) (spelled : List (List ℕ)) (text : List ℕ) (found : Option ℕ) → AreSpelled ports spelled
    → found ≡ position_from (bytes_eq text) 0 spelled → FindsPort ports text found
finds_port ports spelled text found are e = record { sound = sound; complete = complete }
  where
    texts : found ≡ position_from (bytes_eq text) 0 (map name_text (port_names ports))
    texts = e ∙ ap (λ xs. position_from (bytes_eq text) 0 xs) are.texts

    sound : (n : ℕ) → found ≡ Some n → (n < length ports) × (text ≡ port_text ports n)
    sound n some =
        let at = found_is (bytes_eq text) (map name_text (port_names ports)) 0 n (sym texts ∙ some) in
        let here = spelled_at ports at.place at.item at.there in
        let same : at.place ≡ n = (let is = at.is in omega arith) in (
          (let b = here.below in omega arith),
          (bytes_eq-Decides text at.item).0 at.passes ∙ here.is ∙ ap (port_text ports) same,
        )

    complete : (n : ℕ) → n < length ports → text ≡ port_text ports n → found ≡ Some n
    complete n below is =
        let at = named_at ports n are.named below in
        texts
        ∙ ap (λ t. position_from (bytes_eq t) 0 (map name_text (port_names ports))) (is ∙ at.spelled)
        ∙ found_at (port_names ports) at.name 0 n are.named are.distinct at.named at.there
        ∙ ap (λ n. Some n) (omega arith)

pub front_text : (inputs outputs : List Port) (k : ℕ) → k < length inputs → port_text (inputs ++ outputs) k ≡ port_text inputs k
front_text [] outputs k below = absurd (omega arith)
front_text (p ∷ inputs) outputs zero below = refl
front_text (p ∷ inputs) outputs (suc k) below = front_text inputs outputs k (omega arith)

pub back_text : (inputs outputs : List Port) (at k : ℕ) → at ≡ length inputs + k → port_text (inputs ++ outputs) at ≡ port_text outputs k
back_text [] outputs at k e = ap (port_text outputs) (let same : at ≡ k = omega arith in same)
back_text (p ∷ inputs) outputs zero k e = absurd (omega arith)
back_text (p ∷ inputs) outputs (suc at) k e = back_text inputs outputs at k (omega arith)

-- one port more
pub spelled_push : (ports all : List Port) (spelled more : List (List ℕ)) (port : Port) → AreSpelled ports spelled → all ≡ ports ++ port ∷ [] → more ≡ spelled ++ name_text port.name ∷ []
    → IsNamed port.name → is_among (port_names ports) port.name ≡ false → AreSpelled all more
spelled_push ports all spelled more port are e f named fresh =
    let names : port_names all ≡ port_names ports ++ port.name ∷ [] = ap port_names e ∙ map-append (λ (p : Port). p.name) ports (port ∷ []) in
    record {
      texts = f ∙ ap (λ ss. ss ++ name_text port.name ∷ []) are.texts ∙ sym (ap (map name_text) names ∙ map-append name_text (port_names ports) (port.name ∷ []));
      named = let P : List (List ℕ) → Type 0 = λ ns. AllByRecursion IsNamed ns in rw names (all_push IsNamed (port_names ports) port.name are.named named);
      distinct = ap are_distinct names ∙ distinct_push (port_names ports) port.name are.distinct fresh;
    }

-- the place among keys
pub key_place : (test : List ℕ → Bool) (keys : List (Vec ℕ)) → position (λ (key : Vec ℕ). test key.items) keys ≡ position_from test 0 (map (λ (key : Vec ℕ). key.items) keys)
key_place test keys = position_map (λ (key : Vec ℕ). key.items) test keys

-- an input is a port that is found in front
pub no_input : (inputs outputs : List Port) (text : List ℕ) → FindsPort (inputs ++ outputs) text None → FindsPort inputs text None
no_input inputs outputs text found = record {
  sound = λ n e. absurd cc;
  complete = λ n below e.
      absurd (let none : None ≡ Some n = found.complete n (omega (arith, length-append {A = Port})) (e ∙ sym (front_text inputs outputs n below)) in cc);
}

pub an_input : (inputs outputs : List Port) (text : List ℕ) (n : ℕ) → FindsPort (inputs ++ outputs) text (Some n) → n < length inputs → FindsPort inputs text (Some n)
an_input inputs outputs text n found below = record {
  sound = λ m e. let same : n ≡ m = cc in (omega arith, (found.sound n refl).1 ∙ front_text inputs outputs n below ∙ ap (port_text inputs) same);
  complete = λ m small e. found.complete m (omega (arith, length-append {A = Port})) (e ∙ sym (front_text inputs outputs m small));
}

pub an_output : (inputs outputs : List Port) (text : List ℕ) (n : ℕ) → FindsPort (inputs ++ outputs) text (Some n) → length inputs ≤ n → FindsPort inputs text None
an_output inputs outputs text n found above = record {
  sound = λ m e. absurd cc;
  complete = λ m small e.
      absurd (let some : Some n ≡ Some m = found.complete m (omega (arith, length-append {A = Port})) (e ∙ sym (front_text inputs outputs m small)) in
      let same : n ≡ m = cc in
      (let no : ⊥ = omega arith in no));
}

-- whether the output with this number is found
abbrev pub IsOutputAt : List Port → List ℕ → ℕ → Type 0
IsOutputAt outputs text k = (k < length outputs) × (text ≡ port_text outputs k)

pub output_found : (inputs outputs : List Port) (text : List ℕ) (n k : ℕ) → FindsPort (inputs ++ outputs) text (Some n) → n ≡ length inputs + k → IsOutputAt outputs text k
output_found inputs outputs text n k found is = (
  (let below = (found.sound n refl).0 in omega (arith, below, length-append {A = Port})),
  (found.sound n refl).1 ∙ back_text inputs outputs n k is,
)

pub output_place : (inputs outputs : List Port) (text : List ℕ) (o : Option ℕ) (k : ℕ) → FindsPort (inputs ++ outputs) text o → IsOutputAt outputs text k → o ≡ Some (length inputs + k)
output_place inputs outputs text o k found at =
    found.complete (length inputs + k) (let below = at.0 in omega (arith, below, length-append {A = Port})) (at.1 ∙ sym (back_text inputs outputs (length inputs + k) k refl))

-- a new key goes last
pub key_pushed : (keys new : List (Vec ℕ)) (key : Vec ℕ) (ports : List Port) (name : List ℕ) → AreSpelled ports (map (λ (k : Vec ℕ). k.items) keys) → IsNamed name
    → is_among (port_names ports) name ≡ false → key.items ≡ name_text name → new ≡ cond (list_any (λ (k : Vec ℕ). bytes_eq key.items k.items) keys) keys (keys ++ key ∷ [])
    → new ≡ keys ++ key ∷ []
key_pushed keys new key ports name are named fresh is e =
    e ∙ cond-false (list_any (λ (k : Vec ℕ). bytes_eq key.items k.items) keys) keys (keys ++ key ∷ [])
    (any_map (λ (k : Vec ℕ). k.items) (bytes_eq key.items) keys
    ∙ ap (list_any (bytes_eq key.items)) are.texts
    ∙ ap (λ t. list_any (bytes_eq t) (map name_text (port_names ports))) is
    ∙ among_spelled (port_names ports) name are.named named
    ∙ fresh)

pub key_texts : (keys new : List (Vec ℕ)) (key : Vec ℕ) (name : List ℕ) → key.items ≡ name_text name → new ≡ keys ++ key ∷ []
    → map (λ (k : Vec ℕ). k.items) new ≡ map (λ (k : Vec ℕ). k.items) keys ++ name_text name ∷ []
key_texts keys new key name is e =
    ap (map (λ (k : Vec ℕ). k.items)) e ∙ map-append (λ (k : Vec ℕ). k.items) keys (key ∷ []) ∙ ap (λ t. map (λ (k : Vec ℕ). k.items) keys ++ t ∷ []) is

snoc_same : (a b : List (Vec ℕ)) (v w : Vec ℕ) → a ++ v ∷ [] ≡ b ++ w ∷ [] → a ≡ b
snoc_same [] [] v w e = refl
snoc_same [] (y ∷ []) v w e = absurd cc
snoc_same [] (y ∷ z ∷ b) v w e = absurd cc
snoc_same (x ∷ []) [] v w e = absurd cc
snoc_same (x ∷ z ∷ a) [] v w e = absurd cc
snoc_same (x ∷ a) (y ∷ b) v w e =
    let heads : x ≡ y = cc in
    let tails : a ++ v ∷ [] ≡ b ++ w ∷ [] = cc in
    ap (λ k. k ∷ a) heads ∙ ap (λ ks. y ∷ ks) (snoc_same a b v w tails)

-- the last key is taken away again
pub key_popped : (keys mid new : List (Vec ℕ)) (key : Vec ℕ) (last : Option (Vec ℕ)) → mid ≡ keys ++ key ∷ [] → mid ≡ new ++ option_to_list last → IsSome last ↔ (0 < length mid) → new ≡ keys
key_popped keys mid new key None e f iff =
    absurd (false≢true (iff.1 (let l = ap length e in omega (arith, l, length-append keys (key ∷ [])))))
key_popped keys mid new key (Some last) e f iff = sym (snoc_same keys new key last (sym e ∙ f))
