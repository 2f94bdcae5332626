-- The grammar's loops a turn at a time, under the conversion to data, for values that are flat.
use Rattle.std.proofs.Common.{◌≡◌, ℕ, suc, ◌-◌, ◌<◌, ◌≤◌, ℤ, List, [], ◌∷◌, ◌++◌, length, get_or, take, Bool, true, false, true≢false, bytes_eq, Option, Some, None, option_map, option_and_then, refl, sym, ap, ◌∙◌, arith}
use Rattle.std.proofs.Math.Seq.{take-suc}
use Rattle.std.proofs.lemmas.Slice.Eq.{bytes_eq-Decides}
use Rattle.json.specs.Token.{Token}
use Rattle.json.specs.Lex.{tokens}
use Rattle.json.specs.Json as json
use Rattle.json.specs.Json.{Parse, parse_map, after_end_array, read_key, items, members, value, if_last}
use Rattle.json.proofs.Grammar.{value_is, value-begin_array, value-begin_object, items_end, items_more, members_end, members_more}
use Rattle.serde_json.specs.Data.{Num, Data, null, boolean, number, string, array, object, Items, no_items, item, Members, no_members, put}
use Rattle.serde_json.specs.Find.{of_integer, get_member}
use Rattle.serde_json.specs.Read.{read, number_of, of_json, of_items, of_members, converted}
use Rattle.serde_json.proofs.Views.{get_member-put, get_member-put_other}
use Rattle.lin_text.specs.WholeNumbers.{items_of}
use Rattle.lin_text.specs.FlatObject.{value_of, members_with, object_of}
use Rattle.lin_text.specs.declared.flat_object.Member.{Member}

-- What is in a `Some` is what is in an equal one.
inside : {A : Type 0} {x y : A} → Some x ≡ Some y → x ≡ y
inside e = cc

-- What is left in a conversion that succeeded, and what it made.
found : {B : Type 0} (b : B) (s r : List Token) (x : Option B) → option_map {U = B × List Token} (λ y. (y, s)) x ≡ Some (b, r) → (s ≡ r) × (x ≡ Some b)
found b s r None e = absurd (cc)
found b s r (Some y) e = let same = inside e in (ap (λ p. p.1) same, ap (λ p. Some p.0) same)

-- A conversion that succeeded converted something, and left what was left before.
converted_some : {A B : Type 0} (f : A → Option B) (o : Option (A × List Token)) (b : B) (r : List Token) → converted f o ≡ Some (b, r) → (a : A) × (o ≡ Some (a, r)) × (f a ≡ Some b)
converted_some f None b r e = absurd (cc)
converted_some f (Some p) b r e = let both = found b p.1 r (f p.0) e in (p.0, ap (λ s. Some (p.0, s)) both.0, both.1)

-- A constructor may be put on before or after what is left is paired with it.
twice : {A B : Type 0} (g : A → B) (r : List Token) (x : Option A) → option_map (λ b. (b, r)) (option_map g x) ≡ parse_map g (option_map (λ a. (a, r)) x)
twice g r None = refl
twice g r (Some a) = refl

-- An array is converted by its items.
converted-array : (o : Option (json.Items × List Token)) → converted of_json (parse_map json.array o) ≡ parse_map array (converted of_items o)
converted-array None = refl
converted-array (Some p) = twice array p.1 (of_items p.0)

-- An object is converted by its members.
converted-object : (o : Option (json.Members × List Token)) → converted of_json (parse_map json.object o) ≡ parse_map object (converted (λ ms. of_members ms no_members) o)
converted-object None = refl
converted-object (Some p) = twice object p.1 (of_members p.0 no_members)

-- An item in front of others is converted in front of them.
with_item : (j : json.Json) (d : Data) → of_json j ≡ Some d → (o : Option (json.Items × List Token)) → converted of_items (parse_map (json.item j) o) ≡ parse_map (item d) (converted of_items o)
with_item j d e None = refl
with_item j d e (Some p) = rw e (twice (item d) p.1 (of_items p.0))

-- A member in front of others is put in before them.
with_member : (k : List ℕ) (j : json.Json) (d : Data) (old : Members) → of_json j ≡ Some d → (o : Option (json.Members × List Token))
    → converted (λ ms. of_members ms old) (parse_map (json.member k j) o) ≡ converted (λ ms. of_members ms (put k d old)) o
with_member k j d old e None = refl
with_member k j d old e (Some p) = rw e

-- One turn of the loop over items.
item_read : (p : Parse json.Json) (n : ℕ) (ts r : List Token) (d : Data) → 0 < n → after_end_array ts ≡ None → converted of_json (p ts) ≡ Some (d, r)
    → converted of_items (items p n ts) ≡ parse_map (item d) (converted of_items (items p (n - 1) r))
item_read p n ts r d some going e = let j = converted_some of_json (p ts) d r e in ap (converted of_items) (items_more p n ts r j.0 some going j.1) ∙ with_item j.0 d j.2 _

-- The end of the loop over items.
items_over : (p : Parse json.Json) (n : ℕ) (ts r : List Token) → length ts ≤ n → after_end_array ts ≡ Some r → converted of_items (items p n ts) ≡ Some (no_items, r)
items_over p n ts r enough e = ap (converted of_items) (items_end p n ts r enough e)

-- One turn of the loop over members.
pub member_read : (p : Parse json.Json) (old : Members) (n : ℕ) (k : List ℕ) (ts s r : List Token) (d : Data) → 0 < n → read_key ts ≡ Some (Some k, s) → converted of_json (p s) ≡ Some (d, r)
    → converted (λ ms. of_members ms old) (members p n ts) ≡ converted (λ ms. of_members ms (put k d old)) (members p (n - 1) r)
member_read p old n k ts s r d some key e =
    let j = converted_some of_json (p s) d r e in
    ap (converted (λ ms. of_members ms old)) (members_more p n k ts s r j.0 some key j.1) ∙ with_member k j.0 d old j.2 _

-- The end of the loop over members.
pub members_over : (p : Parse json.Json) (old : Members) (n : ℕ) (ts r : List Token) → length ts ≤ n → read_key ts ≡ Some (None, r) → converted (λ ms. of_members ms old) (members p n ts) ≡ Some (old, r)
members_over p old n ts r enough e = ap (converted (λ ms. of_members ms old)) (members_end p n ts r enough e)

-- ---- whole numbers

-- These whole numbers, in front of the items that follow.
abbrev pub items_before : List ℤ → Items → Items
items_before [] rest = rest
items_before (z ∷ zs) rest = item (number (of_integer z)) (items_before zs rest)

-- With nothing behind them they are the items of their array.
items_before-no_items : (zs : List ℤ) → items_before zs no_items ≡ items_of zs
items_before-no_items [] = refl
items_before-no_items (z ∷ zs) = ap (item (number (of_integer z))) (items_before-no_items zs)

-- The first of the items that follow is the last of the numbers.
items_before-push : (zs : List ℤ) (z : ℤ) (rest : Items) → items_before zs (item (number (of_integer z)) rest) ≡ items_before (zs ++ z ∷ []) rest
items_before-push [] z rest = refl
items_before-push (y ∷ zs) z rest = ap (item (number (of_integer y))) (items_before-push zs z rest)

-- The same of items that were read.
parse_map-push : (zs : List ℤ) (z : ℤ) (o : Option (Items × List Token)) → parse_map (items_before zs) (parse_map (item (number (of_integer z))) o) ≡ parse_map (items_before (zs ++ z ∷ [])) o
parse_map-push zs z None = refl
parse_map-push zs z (Some p) = ap (λ ds. Some (ds, p.1)) (items_before-push zs z p.0)

-- A number's token is the value that it writes.
pub number_read : (depth : ℕ) (s : List ℕ) (r : List Token) (n : Num) → number_of s ≡ Some n → converted of_json (value depth (Token.number s ∷ r)) ≡ Some (number n, r)
number_read depth s r n e = ap (converted of_json) (value_is depth (Token.number s ∷ r)) ∙ rw e

-- One turn of the loop over whole numbers.
pub whole_read : (depth n : ℕ) (zs : List ℤ) (z : ℤ) (s : List ℕ) (ts r : List Token) → 0 < n → ts ≡ Token.number s ∷ r → number_of s ≡ Some (of_integer z)
    → parse_map (items_before zs) (converted of_items (items (value depth) n ts)) ≡ parse_map (items_before (zs ++ z ∷ [])) (converted of_items (items (value depth) (n - 1) r))
whole_read depth n zs z s ts r some first e =
    let going : after_end_array ts ≡ None = ap after_end_array first in
    let item = ap (λ ts. converted of_json (value depth ts)) first ∙ number_read depth s r (of_integer z) e in
    ap (parse_map (items_before zs)) (item_read (value depth) n ts r (number (of_integer z)) some going item) ∙ parse_map-push zs z _

-- The end of the loop over whole numbers.
pub wholes_over : (depth n : ℕ) (zs : List ℤ) (ts r : List Token) → length ts ≤ n → after_end_array ts ≡ Some r
    → parse_map (items_before zs) (converted of_items (items (value depth) n ts)) ≡ Some (items_of zs, r)
wholes_over depth n zs ts r enough e = ap (parse_map (items_before zs)) (items_over (value depth) n ts r enough e) ∙ ap (λ ds. Some (ds, r)) (items_before-no_items zs)

-- The token `null` is its value.
pub null_read : (depth : ℕ) (r : List Token) → converted of_json (value depth (Token.null ∷ r)) ≡ Some (null, r)
null_read depth r = ap (converted of_json) (value_is depth (Token.null ∷ r))

-- A flag's token is its value.
pub flag_read : (depth : ℕ) (b : Bool) (r : List Token) → converted of_json (value depth (Token.boolean b ∷ r)) ≡ Some (boolean b, r)
flag_read depth b r = ap (converted of_json) (value_is depth (Token.boolean b ∷ r))

-- A text's token is its value.
pub text_read : (depth : ℕ) (s : List ℕ) (r : List Token) → converted of_json (value depth (Token.string s ∷ r)) ≡ Some (string s, r)
text_read depth s r = ap (converted of_json) (value_is depth (Token.string s ∷ r))

-- An array is read by its items.
pub array_read : (depth : ℕ) (ts r : List Token) (ds : Items) → 0 < depth → converted of_items (items (value (depth - 1)) (length ts) ts) ≡ Some (ds, r)
    → converted of_json (value depth (Token.begin_array ∷ ts)) ≡ Some (array ds, r)
array_read depth ts r ds some e = ap (converted of_json) (value-begin_array depth ts some) ∙ converted-array (items (value (depth - 1)) (length ts) ts) ∙ ap (parse_map array) e

-- ---- members

-- A member at the end is put in last.
pub members_with-push : (ms : List Member) (m : Member) (old : Members) → members_with (ms ++ m ∷ []) old ≡ put m.key.now (value_of m.field) (members_with ms old)
members_with-push [] m old = refl
members_with-push (l ∷ ms) m old = members_with-push ms m (put l.key.now (value_of l.field) old)

-- An object is read by its members, and is the value of its text where nothing is left.
pub object_read : (text : List ℕ) (ts : List Token) (ms : List Member) → tokens text ≡ Token.begin_object ∷ ts
    → converted (λ js. of_members js no_members) (members (value 126) (length ts) ts) ≡ Some (members_with ms no_members, []) → read text ≡ Some (object_of ms)
object_read text ts ms first e =
    let opened = ap (converted of_json) (value-begin_object 127 ts (omega arith)) ∙ converted-object (members (value 126) (length ts) ts) ∙ ap (parse_map object) e in
    let j = converted_some of_json (value 127 (Token.begin_object ∷ ts)) (object_of ms) [] opened in
    ap (λ ts. option_and_then of_json (option_and_then (λ p. if_last p.0 p.1) (value 127 ts))) first ∙ ap (λ o. option_and_then of_json (option_and_then (λ p. if_last p.0 p.1) o)) j.1 ∙ j.2

-- ---- looking for a key from the end

-- The last of the first members that are left is put in last.
last_left : (ms : List Member) (left : ℕ) (m : Member) → 0 < left → left ≤ length ms → m ≡ get_or ms (left - 1) m
    → members_with (take left ms) no_members ≡ put m.key.now (value_of m.field) (members_with (take (left - 1) ms) no_members)
last_left ms left m some within is =
    let n = left - 1 in
    let one_more : left ≡ suc n = omega arith in
    ap (λ k. members_with (take k ms) no_members) one_more ∙ ap (λ ls. members_with ls no_members) (take-suc ms n m (omega arith) ∙ ap (λ x. take n ms ++ x ∷ []) (sym is))
    ∙ members_with-push (take n ms) m no_members

-- A key that the last of them has is found there.
pub key_here : (key : List ℕ) (ms : List Member) (left : ℕ) (m : Member) → 0 < left → left ≤ length ms → m ≡ get_or ms (left - 1) m → bytes_eq m.key.now key ≡ true
    → get_member key (members_with (take left ms) no_members) ≡ Some (value_of m.field)
key_here key ms left m some within is e =
    let same : m.key.now ≡ key = (bytes_eq-Decides m.key.now key).0 e in
    let old = members_with (take (left - 1) ms) no_members in
    ap (get_member key) (last_left ms left m some within is ∙ ap (λ k. put k (value_of m.field) old) same) ∙ get_member-put key (value_of m.field) old

-- A key that the last of them has not is found where it is found before.
pub key_before : (key : List ℕ) (ms : List Member) (left : ℕ) (m : Member) → 0 < left → left ≤ length ms → m ≡ get_or ms (left - 1) m → bytes_eq m.key.now key ≡ false
    → get_member key (members_with (take left ms) no_members) ≡ get_member key (members_with (take (left - 1) ms) no_members)
key_before key ms left m some within is e =
    let other : (key ≡ m.key.now → ⊥) = λ h. true≢false (sym ((bytes_eq-Decides m.key.now key).1 (sym h)) ∙ e) in
    ap (get_member key) (last_left ms left m some within is) ∙ get_member-put_other key m.key.now (value_of m.field) (members_with (take (left - 1) ms) no_members) other
