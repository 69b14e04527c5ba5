-- From the held bytes to the known ones.
use Rattle.std.proofs.Common.{◌≡◌, ℕ, ◌+◌, ◌<◌, ◌≤◌, ◌⊎◌, Bool, true, false, ◌&&◌, cond, List, [], ◌∷◌}
use Rattle.std.proofs.Common.{◌++◌, length, take, drop, Option, Some, None, Result, Ok, Err, IfSome}
use Rattle.std.proofs.Common.{is_some, unwrap_or, refl, sym, ap, subst, ◌∙◌, arith, nat_le, append_assoc}
use Rattle.std.proofs.Common.{append-nil, inl, inr, take-append-drop, codes, bytes_eq, ◌^◌}
use borrow.Author.Tests.{leb-true}
use Rattle.std.proofs.lemmas.Grind.{common_steps}
use Rattle.std.proofs.lemmas.List.{drop-drop, drop_at}
use Rattle.std.specs.List.{list_all}
use Rattle.std.specs.Str.Parse.{digits_value}
use Rattle.std.specs.Io.KnownBytes.{Keeps, prepend_known}
use Rattle.httparse.specs.Grammar.{RequestHead, print_request, ReadsRequest, HasNoRequest, NeverHasRequest}
use Rattle.httparse.proofs.GrammarLemmas.{ReadsRequest-append}
use Rattle.hub_http.specs.declared.fault.HttpFault.{HttpFault}
use Rattle.hub_http.specs.declared.fault.HttpFault.TheVariants.{NoMemory, BadHead, HeadTooLong, BodyTooLong}
use Rattle.hub_http.specs.declared.fault.HttpFault.TheVariants.{Version, Coding, Ended, IoFault}
use Rattle.hub_http.specs.declared.head.Head.{Head}
use Rattle.hub_http.specs.declared.request.Request.{Request}
use Rattle.hub_http.specs.Heads.{Pair, Begins, BeginsFaulty, BeginsTooLong, GoesOn}
use Rattle.hub_http.specs.Heads.{NeverHasHead, HasHeadFault, IsPartOfHead, length_of, length_or_fault}
use Rattle.hub_http.specs.Heads.{is_digits, is_target, values_named, pairs_of, body_limit}
use Rattle.hub_http.proofs.HeadLemmas.{head_has_bytes}
use Rattle.hub_http.specs.Stream.{Spells, asked_by, Leaves}
use Rattle.hub_http.specs.Looking.{IsHeadAt, FindFaults, LookFaults}

-- of two fronts of one text the shorter is a front of the longer
splits : (p r a m : List ℕ) → p ++ r ≡ a ++ m → length p ≤ length a → (q : List ℕ) × (a ≡ p ++ q)
splits [] r a m e l = (a, refl)
splits (x ∷ p) r [] m e l = absurd (omega arith)
splits (x ∷ p) r (y ∷ a) m e l =
    let tail : p ++ r ≡ a ++ m = cc in
    let head : x ≡ y = cc in
    let rest = splits p r a m tail (omega arith) in (rest.0, cc (head, rest.1))

keeps_some : (a b : Option (List ℕ)) (P : List ℕ → Type 0) → Keeps a b → IfSome b P → IfSome a P
keeps_some None b P k p = tt
keeps_some (Some x) None P k p = absurd k
keeps_some (Some x) (Some y) P k p = subst P k p

-- bytes without a head, as many as a head may have, begin with no head whatever follows
never_after_part : (held : List ℕ) → 16384 ≤ length held → HasNoRequest held → NeverHasHead held
never_after_part held long none more h rest b =
    let cut = splits (print_request h) rest held more (sym b.reads.1) (omega (arith, b.len)) in
    none h cut.0 (b.reads.0, cut.1)

pub goes_on_too_long : (held : List ℕ) → 16384 ≤ length held → GoesOn held
    → NeverHasHead held × BeginsTooLong held
goes_on_too_long held long on =
    (never_after_part held long on.0, inr (inr (held, [], sym (append-nil held), long, on)))

-- bytes begin with no head, whatever follows, where a front of them does
never_more : (held y : List ℕ) → NeverHasHead held → NeverHasHead (held ++ y)
never_more held y never more h rest b =
    never (y ++ more) h rest (subst (λ (l : List ℕ). Begins l h rest) (append_assoc held y more) b)

never_request_more : (held y : List ℕ) → NeverHasRequest held → NeverHasRequest (held ++ y)
never_request_more held y never more h rest r =
    never (y ++ more) h rest (subst (λ (l : List ℕ). ReadsRequest l h rest) (append_assoc held y more) r)

faulty_more : (held y : List ℕ) (fault : HttpFault) → BeginsFaulty held fault → BeginsFaulty (held ++ y) fault
faulty_more held y fault b = (
  b.0,
  b.1 ++ y,
  record { reads = ReadsRequest-append held b.0 b.1 y b.2.reads; len = b.2.len; fields = b.2.fields },
  b.3,
)

too_long_more : (held y : List ℕ) → BeginsTooLong held → BeginsTooLong (held ++ y)
too_long_more held y b =
    elim b [
      | inl x ↦ inl (x.0, x.1 ++ y, ap (λ l. l ++ y) x.2 ∙ append_assoc x.0 x.1 y, x.3, x.4, x.5)
      | inr z ↦ elim z [
        | inl x ↦ inr (inl (x.0, x.1 ++ y, ReadsRequest-append held x.0 x.1 y x.2, x.3))
        | inr x ↦ inr (inr (x.0, x.1 ++ y, ap (λ l. l ++ y) x.2 ∙ append_assoc x.0 x.1 y, x.3, x.4))
      ]
    ]

pub head_fault_more : (held y : List ℕ) (fault : HttpFault) → HasHeadFault held fault
    → HasHeadFault (held ++ y) fault
head_fault_more held y BadHead f =
    elim f [ inl x ↦ inl (never_request_more held y x) | inr x ↦ inr (faulty_more held y BadHead x) ]
head_fault_more held y HeadTooLong f = (never_more held y f.0, too_long_more held y f.1)
head_fault_more held y BodyTooLong f = faulty_more held y BodyTooLong f
head_fault_more held y Version f = faulty_more held y Version f
head_fault_more held y Coding f = faulty_more held y Coding f
head_fault_more held y NoMemory f = f
head_fault_more held y Ended f = f
head_fault_more held y IoFault f = f

faults_more : (held y : List ℕ) (fault : HttpFault) → FindFaults held (Some y) fault
    → Leaves (held ++ y) (Err fault) (Some (held ++ y))
faults_more held y NoMemory f = (refl, f)
faults_more held y Ended f =
    let same : held ++ y ≡ held = ap (λ l. held ++ l) f.1 ∙ append-nil held in
    inl (subst IsPartOfHead (sym same) f.0)
faults_more held y IoFault f = tt
faults_more held y fault f = head_fault_more held y fault f

-- a fault of the search for a head is a fault of the bytes
pub told_fault : (a0 left : Option (List ℕ)) (held : List ℕ) (fault : HttpFault)
    → Keeps a0 (prepend_known held left) → FindFaults held left fault
    → IfSome a0 (λ bytes. Leaves bytes (Err fault) (prepend_known held left))
told_fault a0 None held fault k f = keeps_some a0 None (λ bytes. Leaves bytes (Err fault) None) k tt
told_fault a0 (Some y) held fault k f =
    keeps_some a0 (Some (held ++ y)) (λ bytes. Leaves bytes (Err fault) (Some (held ++ y))) k
    (faults_more held y fault f)

more_bytes : (held more : List ℕ) → 0 < length held → 0 < length (held ++ more)
more_bytes held more some = grind (arith, common_steps)

block_bytes : (held block more : List ℕ) → 0 < length block → 0 < length (held ++ (block ++ more))
block_bytes held block more some = grind (arith, common_steps)

some_held : (held : List ℕ) (left : Option (List ℕ)) → 0 < length held
    → IfSome left (λ more. 0 < length (held ++ more))
some_held held None some = tt
some_held held (Some more) some = more_bytes held more some

some_known : (held block : List ℕ) (left : Option (List ℕ)) → 0 < length block
    → IfSome (prepend_known block left) (λ more. 0 < length (held ++ more))
some_known held block None some = tt
some_known held block (Some more) some = block_bytes held block more some

-- a fault of a look into the held bytes is a fault of the search for a head
pub looked_fault : (held : List ℕ) (left : Option (List ℕ)) (fault : HttpFault) → LookFaults held fault
    → FindFaults held left fault
looked_fault held left NoMemory f = some_held held left f
looked_fault held left BadHead f = f
looked_fault held left HeadTooLong f = f
looked_fault held left BodyTooLong f = f
looked_fault held left Version f = f
looked_fault held left Coding f = f
looked_fault held left Ended f = absurd f
looked_fault held left IoFault f = absurd f

-- and it is no fault of the reader
pub looked_not_read : {T : Type 0} (held : List ℕ) (fault : HttpFault) (r : Result T HttpFault)
    → LookFaults held fault → r ≡ Err fault → r ≡ Err IoFault → ⊥
looked_not_read held fault r f is e =
    let same : fault ≡ IoFault = cc in subst (λ (other : HttpFault). LookFaults held other) same f

-- a fault of reading more is a fault of the search for a head
pub read_fault : (held block : List ℕ) (left : Option (List ℕ)) (fault : HttpFault)
    → (fault ≡ NoMemory) ⊎ (fault ≡ IoFault) → (fault ≡ NoMemory → 0 < length block)
    → FindFaults held (prepend_known block left) fault
read_fault held block left fault (inl p) memory =
    subst (λ (other : HttpFault). FindFaults held (prepend_known block left) other) (sym p)
    (some_known held block left (memory p))
read_fault held block left fault (inr p) memory =
    subst (λ (other : HttpFault). FindFaults held (prepend_known block left) other) (sym p) tt

-- two steps, one after the other, keep the known bytes that each of them keeps
pub keeps_behind : (a b d : Option (List ℕ)) → Keeps a b → Keeps b d → Keeps a d
keeps_behind None b d p q = tt
keeps_behind (Some x) None d p q = absurd p
keeps_behind (Some x) (Some y) None p q = absurd q
keeps_behind (Some x) (Some y) (Some z) p q = q ∙ p

pub spelled : (held1 held2 held3 y : List ℕ) (head : Head) (request : Request)
    (n : ℕ) (x : (other : RequestHead) × IsHeadAt held1 head other)
    → ((more : List ℕ) × (held2 ≡ held1 ++ more)) → head.len + n ≤ length held2 → n ≡ unwrap_or head.length 0
    → request.body.items ≡ take n (drop head.len held2) → held3 ≡ drop (head.len + n) held2
    → request.method ≡ head.method → request.target.items ≡ head.target.items
    → request.has_length ≡ is_some head.length → request.close ≡ head.close
    → Spells (held2 ++ y) (asked_by request) (held3 ++ y)
spelled held1 held2 held3 y head request n x grown room size body left method target has close =
    let other = x.0 in
    let at = x.1 in
    let r1 : ReadsRequest held2 other (drop head.len held1 ++ grown.0) =
    rw grown.1 (ReadsRequest-append held1 other (drop head.len held1) grown.0 at.begins.reads) in
    let whole : drop head.len held2 ≡ drop head.len held1 ++ grown.0 =
    ap (drop head.len) r1.1 ∙ drop_at (print_request other) (drop head.len held1 ++ grown.0) head.len
    (sym at.len) in
    let parts : request.body.items ++ held3 ≡ drop head.len held1 ++ grown.0 =
    ap (λ l. l ++ held3) body
    ∙ ap (λ l. take n (drop head.len held2) ++ l) (left ∙ sym (drop-drop n head.len held2))
    ∙ take-append-drop n (drop head.len held2)
    ∙ whole in
    let r2 : ReadsRequest (held2 ++ y) other ((drop head.len held1 ++ grown.0) ++ y) =
    ReadsRequest-append held2 other _ y r1 in
    let tail : (drop head.len held1 ++ grown.0) ++ y ≡ request.body.items ++ (held3 ++ y) =
    ap (λ l. l ++ y) (sym parts) ∙ append_assoc request.body.items held3 y in
    let sized : length (take n (drop head.len held2)) ≡ n = grind (arith, common_steps) in (
      other,
      record {
        begins = record {
          reads = (r2.0, r2.1 ∙ ap (λ l. print_request other ++ l) tail);
          len = at.begins.len;
          fields = at.begins.fields;
        };
        length = head.length;
        length_is = at.length;
        method = method ∙ at.method;
        target = target ∙ at.target;
        has_length = has;
        close = close ∙ at.close;
        body = ap length body ∙ sized ∙ size;
      },
    )

pub told_request : (a0 left1 left2 : Option (List ℕ)) (held1 held2 held3 : List ℕ)
    (head : Head) (request : Request) (n : ℕ)
    → Keeps a0 (prepend_known held1 left1) → ((other : RequestHead) × IsHeadAt held1 head other)
    → Keeps (prepend_known held1 left1) (prepend_known held2 left2)
    → ((more : List ℕ) × (held2 ≡ held1 ++ more))
    → head.len + n ≤ length held2 → n ≡ unwrap_or head.length 0
    → request.body.items ≡ take n (drop head.len held2) → held3 ≡ drop (head.len + n) held2
    → request.method ≡ head.method → request.target.items ≡ head.target.items
    → request.has_length ≡ is_some head.length → request.close ≡ head.close
    → IfSome a0 (λ bytes. Leaves bytes (Ok (Some request)) (prepend_known held3 left2))
told_request a0 left1 None held1 held2 held3 head request n k1 x k2 grown room size body left method target
    has close =
    keeps_some a0 (prepend_known held1 left1) (λ bytes. Leaves bytes (Ok (Some request)) None) k1
    (keeps_some (prepend_known held1 left1) None (λ bytes. Leaves bytes (Ok (Some request)) None) k2 tt)
told_request a0 left1
    (Some y) held1 held2 held3 head request n k1 x k2 grown room size body left method target has close =
    keeps_some a0 (prepend_known held1 left1)
    (λ bytes. Leaves bytes (Ok (Some request)) (Some (held3 ++ y))) k1
    (keeps_some (prepend_known held1 left1)
    (Some (held2 ++ y)) (λ bytes. Leaves bytes (Ok (Some request)) (Some (held3 ++ y))) k2
    (spelled held1 held2 held3 y head request n x grown room size body left method target has close))

-- where a head was found, the bytes are not empty
some_bytes : (held1 held2 y : List ℕ) (head : Head) → ((other : RequestHead) × IsHeadAt held1 head other)
    → ((more : List ℕ) × (held2 ≡ held1 ++ more)) → 0 < length (held2 ++ y)
some_bytes held1 held2 y head x grown =
    let some = head_has_bytes held1 x.0 (drop head.len held1) x.1.begins.reads in
    let size = ap length grown.1 in
    grind (arith, common_steps)

left_so : (bytes : List ℕ) (fault : HttpFault) → (fault ≡ NoMemory) ⊎ (fault ≡ IoFault) → 0 < length bytes
    → Leaves bytes (Err fault) (Some bytes)
left_so bytes fault (inl p) some =
    subst (λ (other : HttpFault). Leaves bytes (Err other) (Some bytes)) (sym p) (refl, some)
left_so bytes fault (inr p) some =
    subst (λ (other : HttpFault). Leaves bytes (Err other) (Some bytes)) (sym p) tt

pub told_memory : (a0 left1 left2 : Option (List ℕ)) (held1 held2 : List ℕ) (head : Head) (fault : HttpFault)
    → Keeps a0 (prepend_known held1 left1) → ((other : RequestHead) × IsHeadAt held1 head other)
    → Keeps (prepend_known held1 left1) (prepend_known held2 left2)
    → ((more : List ℕ) × (held2 ≡ held1 ++ more))
    → (fault ≡ NoMemory) ⊎ (fault ≡ IoFault)
    → IfSome a0 (λ bytes. Leaves bytes (Err fault) (prepend_known held2 left2))
told_memory a0 left1 None held1 held2 head fault k1 x k2 grown w =
    keeps_some a0 (prepend_known held1 left1) (λ bytes. Leaves bytes (Err fault) None) k1
    (keeps_some (prepend_known held1 left1) None (λ bytes. Leaves bytes (Err fault) None) k2 tt)
told_memory a0 left1 (Some y) held1 held2 head fault k1 x k2 grown w =
    keeps_some a0 (prepend_known held1 left1) (λ bytes. Leaves bytes (Err fault) (Some (held2 ++ y))) k1
    (keeps_some (prepend_known held1 left1)
    (Some (held2 ++ y)) (λ bytes. Leaves bytes (Err fault) (Some (held2 ++ y))) k2
    (left_so (held2 ++ y) fault w (some_bytes held1 held2 y head x grown)))

one_bound : (a b : Bool) (m : ℕ) (l : Option ℕ) → (b ≡ true → m ≤ 8388608)
    → cond a (cond b (Ok (Some m)) (Err BodyTooLong)) (Err BadHead) ≡ Ok l → unwrap_or l 0 ≤ 8388608
one_bound true true m l e h =
    let same : Some m ≡ l = cc in subst (λ (o : Option ℕ). unwrap_or o 0 ≤ 8388608) same (e refl)
one_bound true false m l e h = absurd (cc)
one_bound false b m l e h = absurd (cc)

length_of_bound : (vs : List (List ℕ)) (l : Option ℕ) → length_of vs ≡ Ok l → unwrap_or l 0 ≤ 8388608
unfolding length_of
length_of_bound [] l h =
    let same : None ≡ l = cc in subst (λ (o : Option ℕ). unwrap_or o 0 ≤ 8388608) same (omega arith)
length_of_bound (v ∷ vs) l h =
    one_bound (is_digits v && list_all (λ w. bytes_eq w v) vs)
    (nat_le (digits_value 10 v) body_limit) (digits_value 10 v) l
    (λ (t : nat_le (digits_value 10 v) 8388608 ≡ true). leb-true (digits_value 10 v) 8388608 t) h

asked_bound_choice : (a b c : Bool) (r : Result (Option ℕ) HttpFault) (l : Option ℕ)
    → (r ≡ Ok l → unwrap_or l 0 ≤ 8388608)
    → cond a (cond b (Err Coding) (cond c r (Err BadHead))) (Err Version) ≡ Ok l → unwrap_or l 0 ≤ 8388608
asked_bound_choice true true c r l f h = absurd (cc)
asked_bound_choice true false true r l f h = f h
asked_bound_choice true false false r l f h = absurd (cc)
asked_bound_choice false b c r l f h = absurd (cc)

asked_bound : (minor : ℕ) (target : List ℕ) (pairs : List Pair) (l : Option ℕ)
    → length_or_fault minor target pairs ≡ Ok l → unwrap_or l 0 ≤ 8388608
unfolding length_or_fault
asked_bound minor target pairs l h =
    asked_bound_choice _ _ (is_target target)
    (length_of (values_named (codes "content-length") pairs)) l (length_of_bound _ l) h

pub head_fits : (held : List ℕ) (head : Head) (n : ℕ) → ((other : RequestHead) × IsHeadAt held head other)
    → n ≡ unwrap_or head.length 0 → head.len + n < 2 ^ 64
head_fits held head n x e =
    let body = asked_bound x.0.minor x.0.target (pairs_of x.0) head.length x.1.length in
    omega (arith, body, e, x.1.len, x.1.begins.len)
