-- Lists of names that are made name by name.
use Rattle.std.proofs.Common.{◌≡◌, ℕ, ◌+◌, ◌<◌, ◌≤◌, List, [], ◌∷◌, ◌++◌, length, get_or, take, map, ap, sym, ◌∙◌, append_assoc, le_of_lt, lt_of_lt_of_le, arith}
use Rattle.std.proofs.lemmas.List.{length-append, length-map, length-take-le, take_all, take_more, map_more}

-- one more name behind those in front
pub names_pushed : (front names : List (List ℕ)) (i : ℕ) (x y : List ℕ) (made more : List (List ℕ)) → i < length names → x ≡ get_or names i x → y ≡ x
    → made ≡ front ++ take i names → more ≡ made ++ y ∷ [] → more ≡ front ++ take (i + 1) names
names_pushed front names i x y made more within at same so_far pushed =
    pushed ∙ ap (λ l. l ++ y ∷ []) so_far ∙ append_assoc front (take i names) (y ∷ [])
    ∙ ap (λ l. front ++ l) (ap (λ z. take i names ++ z ∷ []) (same ∙ at) ∙ sym (take_more names i x within))

-- there is room for one more
pub names_room : (front names : List (List ℕ)) (i a b most : ℕ) (made : List (List ℕ)) → i < length names → length front ≤ a → length names ≤ b → a + b ≤ most
    → made ≡ front ++ take i names → length made < most
names_room front names i a b most made within few_front few room so_far =
    let count : length made ≡ length front + length (take i names) = ap length so_far ∙ length-append front (take i names) in
    let taken : length (take i names) ≡ i = length-take-le i names (le_of_lt within) in
    omega arith

-- all names behind those in front
pub names_all : (front names : List (List ℕ)) (i : ℕ) (made : List (List ℕ)) → length names ≤ i → made ≡ front ++ take i names → made ≡ front ++ names
names_all front names i made past so_far = so_far ∙ ap (λ l. front ++ l) (take_all i names past)

-- the name of one more part
pub part_pushed : {A : Type 0} (name_of : A → List ℕ) (parts : List A) (i : ℕ) (x : A) (y : List ℕ) (made more : List (List ℕ)) → i < length parts → x ≡ get_or parts i x → y ≡ name_of x
    → made ≡ map name_of (take i parts) → more ≡ made ++ y ∷ [] → more ≡ map name_of (take (i + 1) parts)
part_pushed name_of parts i x y made more within at same so_far pushed =
    pushed ∙ ap (λ l. l ++ y ∷ []) so_far ∙ ap (λ z. map name_of (take i parts) ++ z ∷ []) (same ∙ ap name_of at) ∙ sym (map_more name_of parts i x within)

pub part_room : {A : Type 0} (name_of : A → List ℕ) (parts : List A) (i most : ℕ) (made : List (List ℕ)) → i < length parts → length parts ≤ most → made ≡ map name_of (take i parts)
    → length made < most
part_room name_of parts i most made within few so_far =
    rw (ap length so_far ∙ length-map (take i parts) name_of ∙ length-take-le i parts (le_of_lt within)) (lt_of_lt_of_le within few)

pub parts_all : {A : Type 0} (name_of : A → List ℕ) (parts whole : List A) (i : ℕ) (made : List (List ℕ)) → length parts ≤ i → parts ≡ whole → made ≡ map name_of (take i parts)
    → made ≡ map name_of whole
parts_all name_of parts whole i made past same so_far = so_far ∙ ap (map name_of) (take_all i parts past ∙ same)
