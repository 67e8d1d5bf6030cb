-- Blocks: what spells one is spelled by its canonical text, but for lines.
use Rattle.std.proofs.Common.{◌≡◌, ℕ, zero, suc, ◌+◌, ◌/◌, ◌%◌, List, [], ◌∷◌, ◌++◌, append_assoc, map, Bool, true, false, cond, refl, sym, ap, ◌∙◌, subst, arith, decimal, ◌==◌, if◌then◌else◌}
use Rattle.std.specs.List.{flat_map, filter, AllByRecursion}
use Rattle.std.proofs.lemmas.List.{append-nil}
use Rattle.std.proofs.lemmas.Bool.{lt-ltb}
use Rattle.std.specs.Fmt.{digits, digits_onto, digit_glyph}
use Rattle.std.proofs.lemmas.List.Elements.{All-from_recursion, recursion_from_All}
use Rattle.ir_core.specs.declared.instructions.Inst.{Inst}
use Rattle.ir_core.specs.declared.module.Block.{Block}
use Rattle.ir_core.specs.Formed.{is_byte}
use Rattle.ir_core.specs.Tokens.{Lexeme}
use Rattle.ir_core.specs.Spell.{many}
use Rattle.ir_core.specs.Instructions.{plain, last, is_kept, body_of, block}
use Rattle.ir_core.specs.Text.{inst_text, block_text}
use Rattle.ir_core.specs.Lines.{inst_unlined, block_unlined}
use Rattle.ir_core.proofs.Runs.{if_true, every_more}
use Rattle.text_laws.specs.Spelling.{AreBytes, IsSpelled}
use Rattle.text_laws.specs.Parts.{FormedInst, FormedBlock}
use Rattle.text_laws.proofs.Rows.{Bare}
use Rattle.text_laws.proofs.Joined.{Inner, inner_then}
use Rattle.text_laws.proofs.Spelled.{Spelled, part, no_tokens, spelled_done, spelled_then, spelled_as, token_then, shows_line}
use Rattle.text_laws.proofs.Good.{AllGood, good_then, good_done, good_one, good_many}
use Rattle.text_laws.proofs.Back.{Back}
use Rattle.text_laws.proofs.Names.{label_bytes, label_bare, shows_label}
use Rattle.text_laws.proofs.Quoted.{label_inner}
use Rattle.text_laws.proofs.Insts.{plain_back, last_back}

-- ---- one behind the other, but for lines

-- each is spelled but for what f forgets
abbrev pub Like : {X Y : Type 0} → (List ℕ → List Bare → Type 0) → (X → List ℕ) → (List Lexeme → X → Type 0) → (X → Y) → X → Type 0
Like G show S f x = Back G (show x) S (λ y. f x ≡ f y)

abbrev pub AllLike : {X Y : Type 0} → (List ℕ → List Bare → Type 0) → (X → List ℕ) → (List Lexeme → X → Type 0) → (X → Y) → List X → Type 0
AllLike G show S f [] = Unit {0}
AllLike G show S f (x ∷ xs) = Like G show S f x × AllLike G show S f xs

pub all_like : {X Y : Type 0} (G : List ℕ → List Bare → Type 0) (show : X → List ℕ) (S : List Lexeme → X → Type 0) (f : X → Y) (P : X → Type 0) → ((x : X) → P x → Like G show S f x) → (xs : List X) → AllByRecursion P xs → AllLike G show S f xs
all_like G show S f P law [] g = tt
all_like G show S f P law (x ∷ xs) g = (law x g.0, all_like G show S f P law xs g.1)

pub like_cons : {X Y : Type 0} (S : List Lexeme → X → Type 0) (f : X → Y) (x : X) (xs : List X) (ls ms : List Bare) → Spelled S ls (λ y. f x ≡ f y) → Spelled (many S) ms (λ ys. map f xs ≡ map f ys) → Spelled (many S) (ls ++ ms) (λ ys. map f (x ∷ xs) ≡ map f ys)
like_cons S f x xs ls ms s t = record {
  all = λ ts e.
      let r = part ts ls ms e in
      let a = s.all r.front r.front_is in
      let b = t.all r.rest r.rest_is in
      (a.0 ∷ b.0, (r.front, r.rest, a.1, b.1, r.whole), (λ i. a.2 i ∷ b.2 i));
}

pub inner_like : {X Y : Type 0} (show : X → List ℕ) (S : List Lexeme → X → Type 0) (f : X → Y) (xs : List X) → AllLike Inner show S f xs → Back Inner (flat_map show xs) (many S) (λ ys. map f xs ≡ map f ys)
inner_like show S f [] h = record { tokens = []; lexed = record { before = λ d rest ms r. r }; spelled = record { all = λ ts e. ([], no_tokens ts e, refl) } }
inner_like show S f (x ∷ xs) h =
    let s = h.0 in
    let t = inner_like show S f xs h.1 in
    record { tokens = s.tokens ++ t.tokens; lexed = inner_then s.lexed t.lexed; spelled = like_cons S f x xs s.tokens t.tokens s.spelled t.spelled }

-- ---- the parts of a block

kept_by : (x : Inst) (xs : List Inst) (b : Bool) → is_kept x ≡ b → IsSpelled plain x → AllByRecursion FormedInst (filter is_kept xs) → AllByRecursion FormedInst (cond b (x ∷ filter is_kept xs) (filter is_kept xs))
kept_by x xs true e g h = (record { kept = e; spelled = g }, h)
kept_by x xs false e g h = h

filter_plain : (xs : List Inst) → AllGood plain xs → AllByRecursion FormedInst (filter is_kept xs)
filter_plain [] g = tt
filter_plain (x ∷ xs) g = kept_by x xs (is_kept x) refl g.0 (filter_plain xs g.1)

-- behind its label
body_parts : (label : List ℕ × ℕ) (b : Block) → AreBytes label.0 → IsSpelled (body_of label) b → FormedBlock b
body_parts label b n g =
    let a = good_then g in
    let c = good_then a.rest in
    let is = filter is_kept a.value in
    let ps = All-from_recursion FormedInst is (filter_plain a.value (good_many plain a.value a.front)) in
    subst FormedBlock (sym (good_done c.rest)) (record { name = n; insts = record { front = is; end = c.value; whole = refl; plain = ps; last = c.front } })

pub block_parts : (b : Block) → IsSpelled block b → FormedBlock b
block_parts b g =
    let a = good_then g in
    let t = good_one a.front in
    body_parts a.value b (label_bytes (record { token = t.token; fine = t.fine; is = t.is.0 })) a.rest

-- ---- instructions that are kept

-- instructions that are like kept ones are kept
like_kept : (xs ys : List Inst) → map inst_unlined xs ≡ map inst_unlined ys → AllByRecursion FormedInst xs → filter is_kept ys ≡ ys
like_kept [] [] e h = refl
like_kept [] (y ∷ ys) e h = absurd (let f : ◌≡◌ {A = List Inst} [] (inst_unlined y ∷ map inst_unlined ys) = e in cc)
like_kept (x ∷ xs) [] e h = absurd (let f : ◌≡◌ {A = List Inst} (inst_unlined x ∷ map inst_unlined xs) [] = e in cc)
like_kept (x ∷ xs) (y ∷ ys) e h =
    let f : ◌≡◌ {A = List Inst} (inst_unlined x ∷ map inst_unlined xs) (inst_unlined y ∷ map inst_unlined ys) = e in
    let p : inst_unlined x ≡ inst_unlined y = cc in
    let q : map inst_unlined xs ≡ map inst_unlined ys = cc in
    if_true (is_kept y) (y ∷ filter is_kept ys) (filter is_kept ys) (sym (ap is_kept p) ∙ h.0.kept) ∙ ap (λ l. y ∷ l) (like_kept xs ys q h.1)

-- ---- blocks

map_last : {X Y : Type 0} (f : X → Y) (xs : List X) (x : X) → map f (xs ++ x ∷ []) ≡ map f xs ++ f x ∷ []
map_last f [] x = refl
map_last f (y ∷ xs) x = ap (λ l. f y ∷ l) (map_last f xs x)

flat_last : {X Y : Type 0} (f : X → List Y) (xs : List X) (x : X) → flat_map f (xs ++ x ∷ []) ≡ flat_map f xs ++ f x
flat_last f [] x = append-nil (f x)
flat_last f (y ∷ xs) x = ap (λ l. f y ++ l) (flat_last f xs x) ∙ sym (append_assoc (f y) (flat_map f xs) (f x))

abbrev block_as : List ℕ → List Inst → Inst → ℕ → Block
block_as name is end line = record { name = name; insts = is ++ end ∷ []; line = line }

block_same : (name other : List ℕ) (is js : List Inst) (end end2 : Inst) (line line2 : ℕ) → other ≡ name → map inst_unlined is ≡ map inst_unlined js → inst_unlined end ≡ inst_unlined end2 → AllByRecursion FormedInst is → block_unlined (block_as name is end line) ≡ block_unlined (block_as other (filter is_kept js) end2 line2)
block_same name other is js end end2 line line2 p q r k =
    let e : map inst_unlined (is ++ end ∷ []) ≡ map inst_unlined (filter is_kept js ++ end2 ∷ []) =
    map_last inst_unlined is end ∙ ap (λ l. l ++ inst_unlined end ∷ []) (q ∙ ap (map inst_unlined) (sym (like_kept is js q k))) ∙ ap (λ x. map inst_unlined (filter is_kept js) ++ x ∷ []) r ∙ sym (map_last inst_unlined (filter is_kept js) end2) in
    λ i. record { name = sym p i; insts = e i; line = 0 }

-- a name of bytes, and instructions that are spelled
block_by : (name : List ℕ) (is : List Inst) (end : Inst) (line : ℕ) → AreBytes name → AllByRecursion FormedInst is → IsSpelled last end → Like Inner block_text block block_unlined (block_as name is end line)
block_by name is end line b k h =
    let s = inner_like inst_text plain inst_unlined is (all_like Inner inst_text plain inst_unlined FormedInst (λ i p. plain_back i p.spelled) is k) in
    let t = last_back end h in
    let Q : Block → Type 0 = λ n. block_unlined (block_as name is end line) ≡ block_unlined n in
    record {
      tokens = label_bare name ∷ (s.tokens ++ t.tokens);
      lexed = inner_then (label_inner name b) (subst (λ x. Inner x (s.tokens ++ t.tokens)) (sym (flat_last inst_text is end)) (inner_then s.lexed t.lexed));
      spelled = token_then (shows_line (shows_label name b)) (λ label p.
          spelled_then {ls = s.tokens} {ms = t.tokens} {Q = Q} s.spelled (λ js q.
          spelled_as (append-nil t.tokens) (spelled_then {ls = t.tokens} {ms = []} {Q = Q} t.spelled (λ end2 r.
          spelled_done (block_as label.0 (filter is_kept js) end2 label.1) Q (block_same name label.0 is js end end2 line label.1 p q r k)))));
    }

pub block_back : (b : Block) → FormedBlock b → Like Inner block_text block block_unlined b
block_back b p =
    let q = p.insts in
    subst (λ is. Like Inner block_text block block_unlined (record b { insts = is })) (sym q.whole) (block_by b.name q.front q.end b.line p.name (recursion_from_All FormedInst q.front q.plain) q.last)

-- ---- a first block without a label

digit_bytes : (n : ℕ) (acc : List ℕ) → AreBytes acc → AreBytes (digit_glyph false (n % 10) ∷ acc)
digit_bytes n acc h = every_more is_byte (digit_glyph false (n % 10)) acc (subst (λ c. is_byte c ≡ true) (sym (if_true _ _ _ (lt-ltb (n % 10) 10 (omega arith)))) (lt-ltb (48 + n % 10) 256 (omega arith))) h

either_bytes : (b : Bool) (xs ys : List ℕ) → AreBytes xs → AreBytes ys → AreBytes (if b then xs else ys)
either_bytes true xs ys h k = h
either_bytes false xs ys h k = k

digits_bytes : (k n : ℕ) (acc : List ℕ) → AreBytes acc → AreBytes (digits_onto k 10 false n acc)
digits_bytes zero n acc h = h
digits_bytes (suc k) n acc h =
    let m = digit_bytes n acc h in
    either_bytes (n / 10 == 0) (digit_glyph false (n % 10) ∷ acc) (digits_onto k 10 false (n / 10) (digit_glyph false (n % 10) ∷ acc)) m (digits_bytes k (n / 10) (digit_glyph false (n % 10) ∷ acc) m)

pub decimal_bytes : (n : ℕ) → AreBytes (decimal n)
unfolding digits
decimal_bytes n = digits_bytes 64 n [] refl

pub unlabelled_parts : (n line : ℕ) (b : Block) → IsSpelled (body_of (decimal n, line)) b → FormedBlock b
unlabelled_parts n line b g = body_parts (decimal n, line) b (decimal_bytes n) g
