-- Stores that are made in parts.
use Rattle.std.proofs.Common.{◌≡◌, ℕ, List, [], ◌∷◌, ◌++◌, take, drop, refl, sym, ap, ◌∙◌, subst, append_assoc}
use Rattle.std.proofs.lemmas.List.{take-append-drop}
use Rattle.kc_list.specs.Writes.{Write}
use Rattle.kc_table.specs.declared.view.Event.{Event}
use Rattle.kc_table.specs.Log.{Seen, event}
use Rattle.kc_table.specs.Legal.{Legal}
use Rattle.kc_table.proofs.LegalLogs.{legal-prefix}
use Rattle.kc_order.specs.Writers.{stores_of, front_of, end_of, log_of_all}

-- the stores of two lists of writes joined are the stores of both joined
pub stores-append : (xs ys : List Write) → stores_of (xs ++ ys) ≡ stores_of xs ++ stores_of ys
stores-append [] ys = refl
stores-append (x ∷ xs) ys = ap (λ z. event x.word x.value ∷ z) (stores-append xs ys)

-- the log is legal with the stores of these writes at its end
abbrev LegalWith : Seen → List Write → Type 0
LegalWith seen writes = Legal seen.table.shape seen.table.opening (seen.log ++ stores_of writes)

-- the log after some stores
abbrev after : Seen → List Write → Seen
after seen writes = record { table = seen.table; log = seen.log ++ stores_of writes }

-- where a log is legal with all stores, it is legal with a front of them
pub front-legal : (seen : Seen) (writes a : List Write) (n : ℕ) → a ≡ take n writes → LegalWith seen writes → LegalWith seen a
front-legal seen writes a n front h =
    let parts : (seen.log ++ stores_of (take n writes)) ++ stores_of (drop n writes) ≡ seen.log ++ stores_of writes =
    append_assoc seen.log (stores_of (take n writes)) (stores_of (drop n writes))
    ∙
    (ap (λ z. seen.log ++ z) (sym (stores-append (take n writes) (drop n writes)))
    ∙ ap (λ z. seen.log ++ stores_of z) (take-append-drop n writes)) in
    subst (LegalWith seen) (sym front)
    (legal-prefix seen.table.shape seen.table.opening (seen.log ++ stores_of (take n writes)) (seen.log ++ stores_of writes)
    (stores_of (drop n writes), parts) h)

-- where a log is legal with all stores, it is so from after a front on with those that are left
pub back-legal : (seen now : Seen) (writes a b : List Write) (n : ℕ) → a ≡ take n writes → b ≡ drop n writes → now ≡ after seen a
    → LegalWith seen writes → LegalWith now b
back-legal seen now writes a b n front back is h =
    let whole : a ++ b ≡ writes = (λ i. front i ++ back i) ∙ take-append-drop n writes in
    let parts : seen.log ++ stores_of writes ≡ (seen.log ++ stores_of a) ++ stores_of b =
    ap (λ z. seen.log ++ stores_of z) (sym whole) ∙ (ap (λ z. seen.log ++ z) (stores-append a b) ∙ sym (append_assoc seen.log (stores_of a) (stores_of b))) in
    subst (λ s. LegalWith s b) (sym is) (subst (Legal seen.table.shape seen.table.opening) parts h)

-- the stores of a put, with the note among them
pub with-note : (log : List Event) (writes stores items : List Write) (value : ℕ) → stores ≡ items
    → items ≡ (front_of writes ++ record { word = 0; value = value } ∷ []) ++ end_of writes
    → log ++ stores_of stores ≡ log_of_all log writes value
with-note log writes stores items value same are =
    let note : Write = record { word = 0; value = value } in
    let front = stores_of (front_of writes) in
    let end = stores_of (end_of writes) in
    let split : stores_of stores ≡ (front ++ event 0 value ∷ []) ++ end =
    ap stores_of (same ∙ are)
    ∙ (stores-append (front_of writes ++ note ∷ []) (end_of writes) ∙ ap (λ z. z ++ end) (stores-append (front_of writes) (note ∷ []))) in
    ap (λ z. log ++ z) split
    ∙ (sym (append_assoc log (front ++ event 0 value ∷ []) end) ∙ ap (λ z. z ++ end) (sym (append_assoc log front (event 0 value ∷ []))))
