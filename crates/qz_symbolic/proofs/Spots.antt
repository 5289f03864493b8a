-- Where each bit stands among the bits of a system's valuations.
use Rattle.std.proofs.Common.{◌≡◌, ℕ, zero, suc, ◌+◌, ◌*◌, ◌<◌, ◌≤◌, ◌==◌, nat_lt, Bool, true, false, List, [], ◌∷◌, ◌++◌, map, length, get_or, Some, refl, sym, ap, ap₂, ◌∙◌, arith, length-append}
use Rattle.std.specs.Prelude.{slice_get, if◌then◌else◌}
use Rattle.std.specs.List.{flat_map, range_with_len}
use Rattle.std.specs.Option.{option_map, option_map_or}
use Rattle.std.proofs.lemmas.Option.{slice_get_read}
use Rattle.std.proofs.lemmas.List.FromFn.{length-map-range_with_len, map-range_with_len_more, get_or-map-range_with_len}
use Rattle.qz_values.specs.declared.Ty.{Ty}
use Rattle.qz_values.specs.Types.{width_of}
use Rattle.qz_syntax.specs.declared.declarations.Port.{Port}
use Rattle.qz_system.specs.declared.parts.Cell.{Cell}
use Rattle.qz_system.specs.declared.parts.SystemParts.{SystemParts}
use Rattle.qz_system.specs.Parts.{AreParts, cell_type, input_type}
use Rattle.qz_symbolic.specs.Variables.{Spot, spots, spots_of_groups, spots_of_cell, spots_of_input, spots_of_group, cell_width, input_width}
use Rattle.qz_symbolic.specs.Positions.{group_start, cell_start, input_start, mark_size, bit_size}

-- an element past a list, and one within it
pub get_past : {A : Type 0} (xs ys : List A) (k : ℕ) → slice_get (xs ++ ys) (length xs + k) ≡ slice_get ys k
get_past [] ys k = let e : 0 + k ≡ k = omega arith in ap (slice_get ys) e
get_past (x ∷ xs) ys k =
    let e : length (x ∷ xs) + k ≡ suc (length xs + k) = omega arith in
    ap (slice_get ((x ∷ xs) ++ ys)) e ∙ get_past xs ys k

pub get_within : {A : Type 0} (xs ys : List A) (k : ℕ) (x : A) → slice_get xs k ≡ Some x → slice_get (xs ++ ys) k ≡ Some x
get_within [] ys k x at = absurd (cc)
get_within (y ∷ xs) ys zero x at = at
get_within (y ∷ xs) ys (suc k) x at = get_within xs ys k x at

-- what stands in the piece of a number, among all pieces
flat_at : {A : Type 0} (f : ℕ → List A) (a n i k : ℕ) (x : A) → i < n → slice_get (f (a + i)) k ≡ Some x
    → slice_get (flat_map f (range_with_len a n)) (length (flat_map f (range_with_len a i)) + k) ≡ Some x
flat_at f a zero i k x below at = absurd (omega (arith, below))
flat_at f a (suc n) zero k x below at =
    let e : 0 + k ≡ k = omega arith in
    let same : a + 0 ≡ a = omega arith in
    ap (slice_get (f a ++ flat_map f (range_with_len (a + 1) n))) e
    ∙ get_within (f a) (flat_map f (range_with_len (a + 1) n)) k x (ap (λ m. slice_get (f m) k) (sym same) ∙ at)
flat_at f a (suc n) (suc i) k x below at =
    let long = length-append (f a) (flat_map f (range_with_len (a + 1) i)) in
    let e : length (f a ++ flat_map f (range_with_len (a + 1) i)) + k ≡ length (f a) + (length (flat_map f (range_with_len (a + 1) i)) + k) = omega (arith, long) in
    let same : a + 1 + i ≡ a + suc i = omega arith in
    ap (slice_get (f a ++ flat_map f (range_with_len (a + 1) n))) e
    ∙ get_past (f a) (flat_map f (range_with_len (a + 1) n)) (length (flat_map f (range_with_len (a + 1) i)) + k)
    ∙ flat_at f (a + 1) n i k x (omega (arith, below)) (ap (λ m. slice_get (f m) k) same ∙ at)

-- how many there are with one piece more
flat_more : {A : Type 0} (f : ℕ → List A) (a n : ℕ)
    → length (flat_map f (range_with_len a (suc n))) ≡ length (flat_map f (range_with_len a n)) + length (f (a + n))
flat_more f a zero =
    let long = length-append (f a) [] in
    let same : a + 0 ≡ a = omega arith in
    let there : length (f (a + 0)) ≡ length (f a) = ap (λ m. length (f m)) same in
    omega (arith, long, there)
flat_more f a (suc n) =
    let one = length-append (f a) (flat_map f (range_with_len (a + 1) (suc n))) in
    let two = length-append (f a) (flat_map f (range_with_len (a + 1) n)) in
    let rest = flat_more f (a + 1) n in
    let same : a + 1 + n ≡ a + suc n = omega arith in
    let there : length (f (a + 1 + n)) ≡ length (f (a + suc n)) = ap (λ m. length (f m)) same in
    omega (arith, one, two, rest, there)

-- and at most
flat_few : {A : Type 0} (f : ℕ → List A) (a n most : ℕ) → ((m : ℕ) → length (f m) ≤ most) → length (flat_map f (range_with_len a n)) ≤ n * most
flat_few f a zero most few = omega arith
flat_few f a (suc n) most few =
    let long = length-append (f a) (flat_map f (range_with_len (a + 1) n)) in
    let one = few a in
    let rest = flat_few f (a + 1) n most few in
    omega (arith, long, one, rest)

-- a cell's pieces
marks_and_bits : (mark bit : Bool) (x y : Spot)
    → length ((if mark then x ∷ [] else []) ++ (if bit then y ∷ [] else [])) ≡ (if mark then 1 else 0) + (if bit then 1 else 0)
marks_and_bits true true x y = refl
marks_and_bits true false x y = refl
marks_and_bits false true x y = refl
marks_and_bits false false x y = refl

one_or_none : (bit : Bool) (y : Spot) → length (if bit then y ∷ [] else []) ≡ (if bit then 1 else 0)
one_or_none true y = refl
one_or_none false y = refl

at_most_one : (bit : Bool) → (if bit then 1 else 0) ≤ 1
at_most_one true = omega arith
at_most_one false = omega arith

pub bit_after_mark : (mark bit : Bool) (x y : Spot) → bit ≡ true
    → slice_get ((if mark then x ∷ [] else []) ++ (if bit then y ∷ [] else [])) (if mark then 1 else 0) ≡ Some y
bit_after_mark true bit x y is = rw is refl
bit_after_mark false bit x y is = rw is refl

pub bit_alone : (bit : Bool) (y : Spot) → bit ≡ true → slice_get (if bit then y ∷ [] else []) 0 ≡ Some y
bit_alone bit y is = rw is refl

pub cell_pieces : (parts : SystemParts) (j n : ℕ) → length (spots_of_cell parts j n) ≡ mark_size j + bit_size (cell_width parts n) j
cell_pieces parts j n = marks_and_bits (j == 0) (nat_lt j (cell_width parts n)) (Spot.Mark n) (Spot.Stored n j)

pub input_pieces : (parts : SystemParts) (j n : ℕ) → length (spots_of_input parts j n) ≡ bit_size (input_width parts n) j
input_pieces parts j n = one_or_none (nat_lt j (input_width parts n)) (Spot.Given n j)

pub cell_few : (parts : SystemParts) (j n : ℕ) → length (spots_of_cell parts j n) ≤ 2
cell_few parts j n =
    let e = cell_pieces parts j n in
    let a = at_most_one (j == 0) in
    let b = at_most_one (nat_lt j (cell_width parts n)) in
    omega (arith, e, a, b)

pub input_few : (parts : SystemParts) (j n : ℕ) → length (spots_of_input parts j n) ≤ 1
input_few parts j n =
    let e = input_pieces parts j n in
    let b = at_most_one (nat_lt j (input_width parts n)) in
    omega (arith, e, b)

-- a cell more, an input more, a group more
pub cell_more : (parts : SystemParts) (j n : ℕ) → cell_start parts j (n + 1) ≡ cell_start parts j n + (mark_size j + bit_size (cell_width parts n) j)
cell_more parts j n =
    let more = flat_more (spots_of_cell parts j) 0 n in
    let same : 0 + n ≡ n = omega arith in
    let there : length (spots_of_cell parts j (0 + n)) ≡ length (spots_of_cell parts j n) = ap (λ m. length (spots_of_cell parts j m)) same in
    let next : n + 1 ≡ suc n = omega arith in
    let long : length (flat_map (spots_of_cell parts j) (range_with_len 0 (n + 1))) ≡ length (flat_map (spots_of_cell parts j) (range_with_len 0 (suc n))) = ap (λ m. length (flat_map (spots_of_cell parts j) (range_with_len 0 m))) next in
    let pieces = cell_pieces parts j n in
    omega (arith, more, there, long, pieces)

pub input_more : (parts : SystemParts) (j n : ℕ) → input_start parts j (n + 1) ≡ input_start parts j n + bit_size (input_width parts n) j
input_more parts j n =
    let more = flat_more (spots_of_input parts j) 0 n in
    let same : 0 + n ≡ n = omega arith in
    let there : length (spots_of_input parts j (0 + n)) ≡ length (spots_of_input parts j n) = ap (λ m. length (spots_of_input parts j m)) same in
    let next : n + 1 ≡ suc n = omega arith in
    let long : length (flat_map (spots_of_input parts j) (range_with_len 0 (n + 1))) ≡ length (flat_map (spots_of_input parts j) (range_with_len 0 (suc n))) = ap (λ m. length (flat_map (spots_of_input parts j) (range_with_len 0 m))) next in
    let pieces = input_pieces parts j n in
    omega (arith, more, there, long, pieces)

pub group_more : (parts : SystemParts) (j : ℕ) → group_start parts (j + 1) ≡ group_start parts j + length (spots_of_group parts j)
group_more parts j =
    let more = flat_more (spots_of_group parts) 0 j in
    let same : 0 + j ≡ j = omega arith in
    let there : length (spots_of_group parts (0 + j)) ≡ length (spots_of_group parts j) = ap (λ m. length (spots_of_group parts m)) same in
    let next : j + 1 ≡ suc j = omega arith in
    let long : length (flat_map (spots_of_group parts) (range_with_len 0 (j + 1))) ≡ length (flat_map (spots_of_group parts) (range_with_len 0 (suc j))) = ap (λ m. length (flat_map (spots_of_group parts) (range_with_len 0 m))) next in
    omega (arith, more, there, long)

-- a cell's size in a group, by its type
pub cell_size_more : (parts : SystemParts) (j n : ℕ) (ty : Ty) → cell_type parts n ≡ Some ty → (size : ℕ)
    → size ≡ mark_size j + bit_size (width_of ty) j
    → length (flat_map (spots_of_cell parts j) (range_with_len 0 (n + 1))) ≡ length (flat_map (spots_of_cell parts j) (range_with_len 0 n)) + size
cell_size_more parts j n ty is size has =
    let more = cell_more parts j n in
    let wide : cell_width parts n ≡ width_of ty = ap (λ o. option_map_or width_of o 0) is in
    let there : bit_size (cell_width parts n) j ≡ bit_size (width_of ty) j = ap (λ w. bit_size w j) wide in
    omega (arith, more, there, has)

pub input_size_more : (parts : SystemParts) (j n : ℕ) (ty : Ty) → input_type parts n ≡ Some ty → (size : ℕ)
    → size ≡ bit_size (width_of ty) j
    → length (flat_map (spots_of_input parts j) (range_with_len 0 (n + 1))) ≡ length (flat_map (spots_of_input parts j) (range_with_len 0 n)) + size
input_size_more parts j n ty is size has =
    let more = input_more parts j n in
    let wide : input_width parts n ≡ width_of ty = ap (λ o. option_map_or width_of o 0) is in
    let there : bit_size (input_width parts n) j ≡ bit_size (width_of ty) j = ap (λ w. bit_size w j) wide in
    omega (arith, more, there, has)

-- the type of the cell that is read at a number, and that of the input
pub cell_read : (parts : SystemParts) (cells : List Cell) (n : ℕ) (cell : Cell) → cells ≡ parts.cells → n < length cells → cell ≡ get_or cells n cell
    → cell_type parts n ≡ Some cell.ty
cell_read parts cells n cell is below read =
    ap (option_map (λ (one : Cell). one.ty))
    (ap (λ (all : List Cell). slice_get all n) (sym is) ∙ slice_get_read cells (length cells) n cell refl below read)

pub input_read : (parts : SystemParts) (ports : List Port) (n : ℕ) (port : Port) → ports ≡ parts.inputs → n < length ports → port ≡ get_or ports n port
    → input_type parts n ≡ Some port.ty
input_read parts ports n port is below read =
    ap (option_map (λ (one : Port). one.ty))
    (ap (λ (all : List Port). slice_get all n) (sym is) ∙ slice_get_read ports (length ports) n port refl below read)

-- the starts of one group more
pub starts_more : (parts : SystemParts) (starts more : List ℕ) (j next end : ℕ) → starts ≡ map (group_start parts) (range_with_len 0 j)
    → next ≡ group_start parts j → more ≡ starts ++ next ∷ [] → j + 1 ≡ end → more ≡ map (group_start parts) (range_with_len 0 end)
starts_more parts starts more j next end are is has e =
    has ∙ ap₂ (λ (xs : List ℕ) (x : ℕ). xs ++ x ∷ []) are is ∙ sym (map-range_with_len_more (group_start parts) 0 j j (omega arith))
    ∙ ap (λ m. map (group_start parts) (range_with_len 0 m)) e

pub start_at : (parts : SystemParts) (starts : List ℕ) (j k : ℕ) → starts ≡ map (group_start parts) (range_with_len 0 k) → j < k
    → get_or starts j 0 ≡ group_start parts j
start_at parts starts j k are below =
    ap (λ (xs : List ℕ). get_or xs j 0) are ∙ get_or-map-range_with_len (group_start parts) 0 k j j 0 below (omega arith)

-- how many bits there are
groups_count : (parts : SystemParts) (n : ℕ) → length (spots_of_groups parts n) ≡ group_start parts n
groups_count parts n =
    let front = length-map-range_with_len Spot.At 0 (length parts.places) in
    let all = length-append (Spot.Started ∷ map Spot.At (range_with_len 0 (length parts.places))) (flat_map (spots_of_group parts) (range_with_len 0 n)) in
    omega (arith, front, all)

pub spots_count : (parts : SystemParts) → length (spots parts) ≡ group_start parts 64
unfolding spots
spots_count parts = groups_count parts 64

-- a bit in a group
groups_there : (parts : SystemParts) (n j k : ℕ) (spot : Spot) → j < n → slice_get (spots_of_group parts j) k ≡ Some spot
    → slice_get (spots_of_groups parts n) (group_start parts j + k) ≡ Some spot
groups_there parts n j k spot below at =
    let front = Spot.Started ∷ map Spot.At (range_with_len 0 (length parts.places)) in
    let before = length (flat_map (spots_of_group parts) (range_with_len 0 j)) in
    let long = length-map-range_with_len Spot.At 0 (length parts.places) in
    let e : group_start parts j + k ≡ length (Spot.Started ∷ map Spot.At (range_with_len 0 (length parts.places))) + (length (flat_map (spots_of_group parts) (range_with_len 0 j)) + k) = omega (arith, long) in
    let same : 0 + j ≡ j = omega arith in
    ap (slice_get (spots_of_groups parts n)) e
    ∙ get_past (Spot.Started ∷ map Spot.At (range_with_len 0 (length parts.places))) (flat_map (spots_of_group parts) (range_with_len 0 n))
    (length (flat_map (spots_of_group parts) (range_with_len 0 j)) + k)
    ∙ flat_at (spots_of_group parts) 0 n j k spot below (ap (λ m. slice_get (spots_of_group parts m) k) same ∙ at)

pub group_there : (parts : SystemParts) (j k : ℕ) (spot : Spot) → j < 64 → slice_get (spots_of_group parts j) k ≡ Some spot
    → slice_get (spots parts) (group_start parts j + k) ≡ Some spot
unfolding spots
group_there parts j k spot below at = groups_there parts 64 j k spot below at

-- a bit of a cell, and one of an input
pub cell_there : (parts : SystemParts) (j n k : ℕ) (spot : Spot) → j < 64 → n < length parts.cells → slice_get (spots_of_cell parts j n) k ≡ Some spot
    → slice_get (spots parts) (cell_start parts j n + k) ≡ Some spot
cell_there parts j n k spot below within at =
    let same : 0 + n ≡ n = omega arith in
    let e : cell_start parts j n + k ≡ group_start parts j + (length (flat_map (spots_of_cell parts j) (range_with_len 0 n)) + k) = omega arith in
    ap (slice_get (spots parts)) e
    ∙ group_there parts j (length (flat_map (spots_of_cell parts j) (range_with_len 0 n)) + k) spot below
    (get_within (flat_map (spots_of_cell parts j) (range_with_len 0 (length parts.cells))) (flat_map (spots_of_input parts j) (range_with_len 0 (length parts.inputs)))
    (length (flat_map (spots_of_cell parts j) (range_with_len 0 n)) + k) spot
    (flat_at (spots_of_cell parts j) 0 (length parts.cells) n k spot within (ap (λ m. slice_get (spots_of_cell parts j m) k) same ∙ at)))

pub input_there : (parts : SystemParts) (j n k : ℕ) (spot : Spot) → j < 64 → n < length parts.inputs → slice_get (spots_of_input parts j n) k ≡ Some spot
    → slice_get (spots parts) (input_start parts j n + k) ≡ Some spot
input_there parts j n k spot below within at =
    let same : 0 + n ≡ n = omega arith in
    let e : input_start parts j n + k ≡ group_start parts j
    + (length (flat_map (spots_of_cell parts j) (range_with_len 0 (length parts.cells))) + (length (flat_map (spots_of_input parts j) (range_with_len 0 n)) + k)) = omega arith in
    ap (slice_get (spots parts)) e
    ∙ group_there parts j (length (flat_map (spots_of_cell parts j) (range_with_len 0 (length parts.cells))) + (length (flat_map (spots_of_input parts j) (range_with_len 0 n)) + k)) spot below
    (get_past (flat_map (spots_of_cell parts j) (range_with_len 0 (length parts.cells))) (flat_map (spots_of_input parts j) (range_with_len 0 (length parts.inputs)))
    (length (flat_map (spots_of_input parts j) (range_with_len 0 n)) + k)
    ∙ flat_at (spots_of_input parts j) 0 (length parts.inputs) n k spot within (ap (λ m. slice_get (spots_of_input parts j m) k) same ∙ at))

-- numbers are small enough
pub group_few : (parts : SystemParts) → AreParts parts → (j : ℕ) → length (spots_of_group parts j) ≤ 600000
group_few parts are j =
    let all = length-append (flat_map (spots_of_cell parts j) (range_with_len 0 (length parts.cells))) (flat_map (spots_of_input parts j) (range_with_len 0 (length parts.inputs))) in
    let a = flat_few (spots_of_cell parts j) 0 (length parts.cells) 2 (cell_few parts j) in
    let b = flat_few (spots_of_input parts j) 0 (length parts.inputs) 1 (input_few parts j) in
    let c = are.fits_in_size.few_cells in
    let d = are.fits_in_size.few_inputs in
    omega (arith, all, a, b, c, d)

pub cell_start_small : (parts : SystemParts) → AreParts parts → (j n : ℕ) → j < 64 → n ≤ length parts.cells → cell_start parts j n ≤ 40000000
cell_start_small parts are j n below within =
    let a = flat_few (spots_of_group parts) 0 j 600000 (group_few parts are) in
    let b = flat_few (spots_of_cell parts j) 0 n 2 (cell_few parts j) in
    let c = are.fits_in_size.few_cells in
    let d = are.fits_in_size.few_places in
    omega (arith, a, b, c, d)

pub input_start_small : (parts : SystemParts) → AreParts parts → (j n : ℕ) → j < 64 → n ≤ length parts.inputs → input_start parts j n ≤ 50000000
input_start_small parts are j n below within =
    let a = cell_start_small parts are j (length parts.cells) below (omega arith) in
    let b = flat_few (spots_of_input parts j) 0 n 1 (input_few parts j) in
    let c = are.fits_in_size.few_inputs in
    omega (arith, a, b, c)

-- there is a bit for whether it is started, and one for each place
front_long : (parts : SystemParts) (n : ℕ) → 1 + length parts.places ≤ length (spots_of_groups parts n)
front_long parts n = let count = groups_count parts n in omega (arith, count)

pub spots_front : (parts : SystemParts) → 1 + length parts.places ≤ length (spots parts)
unfolding spots
spots_front parts = front_long parts 64
