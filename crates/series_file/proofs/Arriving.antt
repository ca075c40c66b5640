-- Items that came in pieces: one more piece after whole ones.
use Rattle.std.proofs.Common.{◌≡◌, ℕ, ◌+◌, ◌-◌, ◌*◌, ◌/◌, ◌%◌, ◌<◌, ◌≤◌, List, [], ◌++◌, length, Option, ap, sym, ◌∙◌, refl, ⊎_elim, arith, length-append, min, take}
use Rattle.std.proofs.lemmas.List.{take-append-le, length-take-le}
use Rattle.std.proofs.Math.Nat.{zero-div, add-mod, mod-mod, zero-mod, div-add-mod, div-add-mod', mul-add-div}
use Rattle.std.proofs.lemmas.Bool.{cases_lt}
use Rattle.std.specs.List.{All}
use Rattle.std.specs.Io.KnownBytes.{prepend_known, IsAtEnd}
use Rattle.std.proofs.lemmas.List.Elements.{All-append, All-nil}
use Rattle.outside.specs.Taken.{taken_then, prepend_known-none}
use Rattle.series_file.specs.Items.{items_from, Comes}
use Rattle.series_file.proofs.ItemLemmas.{items_from-append}

-- two whole amounts make a whole amount
pub whole_sum : (n a b : ℕ) → a % n ≡ 0 → b % n ≡ 0 → (a + b) % n ≡ 0
whole_sum n a b wa wb = rw (add-mod a b n, wa, wb) (zero-mod n)

-- what a whole amount leaves of a whole amount is whole
pub whole_less : (n a b : ℕ) → a ≤ b → a % n ≡ 0 → b % n ≡ 0 → (b - a) % n ≡ 0
whole_less n a b less wa wb =
    let split : a + (b - a) ≡ b = omega arith in
    let parts : (a % n + (b - a) % n) % n ≡ 0 = sym (add-mod a (b - a) n) ∙ ap (λ m. m % n) split
    ∙ wb in
    let one : (0 + (b - a) % n) % n ≡ 0 = rw wa at parts in
    sym (mod-mod (b - a) n) ∙ ap (λ m. m % n) (omega arith) ∙ one

-- the lesser of two whole amounts is whole
pub whole_min : (n a b : ℕ) → a % n ≡ 0 → b % n ≡ 0 → min a b % n ≡ 0
whole_min n a b wa wb =
    ⊎_elim
    (λ (less : a < b). let e : min a b ≡ a = omega arith in ap (λ m. m % n) e ∙ wa)
    (λ (more : b ≤ a). let e : min a b ≡ b = omega arith in ap (λ m. m % n) e ∙ wb)
    (cases_lt a b)

-- behind a whole amount, the items of the sum are the items of both
pub div_sum : (n a b : ℕ) → 0 < n → a % n ≡ 0 → (a + b) / n ≡ a / n + b / n
div_sum n a b some wa =
    let whole : n * (a / n) ≡ a = omega (arith, div-add-mod a n) in
    ap (λ m. (m + b) / n) (sym whole) ∙ mul-add-div some (a / n) b

-- items and then the items of one more piece
pub Comes-next : {X : Type 0} (at : List ℕ → X) (n bytes count want : ℕ)
    (before now next : Option (List ℕ))
    (items all : List X) (piece : List ℕ)
    → ((xs ys : List ℕ) → n ≤ length xs → at (xs ++ ys) ≡ at xs) → 0 < n
    → Comes at n bytes before now items bytes → bytes % n ≡ 0
    → now ≡ prepend_known piece next → All (λ b. b < 256) piece → length piece ≡ count
    → all ≡ items ++ items_from at n (length piece / n) piece
    → bytes + count ≤ want → (bytes + count < want → IsAtEnd next)
    → Comes at n want before next all (bytes + count)
Comes-next at n bytes count want before now next items all piece front some came whole read each size grown limit end = (
  bs ++ piece,
  record {
    taken = taken_then bs piece before now next came.1.taken read;
    each = All-append (λ b. b < 256) bs piece came.1.each each;
    amount = length-append bs piece ∙ ap (λ m. m + length piece) came.1.amount
        ∙ ap (λ m. bytes + m) size;
    limit = limit;
    end = end;
    items = grown ∙ ap (λ xs. xs ++ items_from at n (length piece / n) piece) came.1.items
        ∙ sym (items_from-append at n front (bytes / n) (length piece / n) bs piece parts)
        ∙ ap (λ m. items_from at n m (bs ++ piece)) sum;
  },
)
  where
    bs : List ℕ
    bs = came.0

    parts : length bs ≡ bytes / n * n
    parts = came.1.amount ∙ omega (arith, div-add-mod' bytes n)

    sum : bytes / n + length piece / n ≡ (bytes + count) / n
    sum = ap (λ m. bytes / n + m / n) size ∙ sym (div_sum n bytes count some whole)

-- the same where the piece is the front of a buffer of which more follows
pub Comes-piece : {X : Type 0} (at : List ℕ → X) (n bytes count want : ℕ)
    (before now next : Option (List ℕ))
    (items all : List X) (filled rest : List ℕ)
    → ((xs ys : List ℕ) → n ≤ length xs → at (xs ++ ys) ≡ at xs) → 0 < n
    → Comes at n bytes before now items bytes → bytes % n ≡ 0
    → now ≡ prepend_known (take count filled) next
    → All (λ b. b < 256) (take count (filled ++ rest))
    → count ≤ length filled
    → all ≡ items ++ items_from at n (length (take count (filled ++ rest)) / n)
    (take count (filled ++ rest))
    → bytes + count ≤ want → (bytes + count < want → IsAtEnd next)
    → Comes at n want before next all (bytes + count)
Comes-piece at n bytes count want before now next items all filled rest front some came whole read each fits grown limit end =
    let same = take-append-le count filled rest fits in
    let size : length (take count (filled ++ rest)) ≡ count =
    ap length same ∙ length-take-le count filled fits in
    Comes-next at n bytes count want before now next items all
    (take count (filled ++ rest)) front some came whole
    (rw same read) each size grown limit end

-- before the first piece nothing came
pub Comes-nothing : {X : Type 0} (at : List ℕ → X) (n : ℕ) (before : Option (List ℕ))
    (items : List X) → items ≡ []
    → Comes at n 0 before before items 0
Comes-nothing at n before items none = (
  [],
  record {
    taken = prepend_known-none before;
    each = All-nil (λ b. b < 256);
    amount = refl;
    limit = omega arith;
    end = λ h. absurd (omega arith);
    items = none ∙ sym (ap (λ m. items_from at n m []) (zero-div n));
  },
)
