-- What questions for the order are answered is of one order that certifies the core numbers.
use Rattle.std.proofs.Common.{◌≡◌, ◌≢◌, ◌<◌, ℕ, Bool, true, cond, List, length, get_or, sym, ap, ap₂, ◌∙◌, arith, Option, Some}
use Rattle.std.specs.Prelude.{AllPairs}
use Rattle.std.proofs.lemmas.Bool.{ne_eqb}
use Rattle.kc_graph.specs.Certificate.{Certifies}
use Rattle.kc_tally.specs.Keys.{stands_before}
use Rattle.kc_tally.proofs.Keys.{stands_before-once}
use Rattle.kc_tally.proofs.Ordering.{named-order}
use Rattle.kc_text.specs.declared.change.ChangeLine.{ChangeLine}
use Rattle.kc_answers.specs.Answers.{standing_by, standing_of}
use Rattle.kc_reply.specs.Facts as fact
use Rattle.kc_reply.specs.declared.standing.Standing.{Standing}
use Rattle.kc_reply.specs.declared.standing.Standing.TheVariants.{Before, After, Same}
use Rattle.kc_stream.specs.Ids.{number_of}
use Rattle.kc_watch.specs.Accounts.{Account, account_of, core_numbers_of, layers_of}
use Rattle.kc_watch.specs.Text.{IsAnsweredBefore}
use Rattle.kc_watch.proofs.Accounts.{account-once, account-size, layers-are, numbers-are}
use Rattle.kc_watch.proofs.Changing.{number-at}

module _ (ids core layer : List ℕ) (v w : ℕ) (before : stands_before core layer ids v w ≡ true) (apart : v ≢ w) where
  -- who stands before another one is told so
  told-before : standing_of ids core layer v w ≡ Before
  told-before = ap₂ (λ (one first : Bool). cond one Same (cond first Before After)) (ne_eqb v w apart) before

  -- and the other one is told the other
  told-after : standing_of ids core layer w v ≡ After
  told-after =
      ap₂ (λ (one first : Bool). cond one Same (cond first Before After)) (ne_eqb w v (λ e. apart (sym e)))
      (stands_before-once core layer ids v w before)

  -- so are their ids
  ids-answered : (a b : ℕ) → number_of ids a ≡ Some v → number_of ids b ≡ Some w
      → (standing_by ids core layer (number_of ids a) (number_of ids b) ≡ Some Before)
      × (standing_by ids core layer (number_of ids b) (number_of ids a) ≡ Some After)
  ids-answered a b of-a of-b = (
    ap₂ (λ (m n : Option ℕ). standing_by ids core layer m n) of-a of-b ∙ ap (λ (s : Standing). Some s) told-before,
    ap₂ (λ (m n : Option ℕ). standing_by ids core layer m n) of-b of-a ∙ ap (λ (s : Standing). Some s) told-after,
  )

-- Behind batches there is such an order: by core number, layer and id.
pub answered-order : (edges : List (ℕ × ℕ)) (batches : List (List ChangeLine)) → let account : Account = account_of edges batches in
    (order : List ℕ) × Certifies account.graph (core_numbers_of account.graph) order
    × AllPairs (λ v w. IsAnsweredBefore account (get_or account.ids v 0) (get_or account.ids w 0)) order
answered-order edges batches =
    let account : Account = account_of edges batches in
    let ids : List ℕ = account.ids in
    let core : List ℕ = core_numbers_of account.graph in
    let layer : List ℕ = layers_of account.graph in
    let size : account.graph.size ≡ length ids = account-size edges batches in
    let (order, certifies, stands) = named-order account.graph core layer ids (numbers-are account.graph) (layers-are account.graph)
    (account-once edges batches) (sym size) in (
      order,
      certifies,
      λ i j d lt l.
          let v : ℕ = get_or order i d in
          let w : ℕ = get_or order j d in
          let lv : v < length ids = omega (arith, certifies.enumerates.below i d (omega (arith, lt, l)), size) in
          let lw : w < length ids = omega (arith, certifies.enumerates.below j d l, size) in
          let told = ids-answered ids core layer v w (stands i j d lt l) (certifies.enumerates.distinct i j d lt l) (get_or ids v 0) (get_or ids w 0)
          (number-at ids v (account-once edges batches) lv) (number-at ids w (account-once edges batches) lw) in
          (ap (fact.Order (get_or ids v 0) (get_or ids w 0)) told.0, ap (fact.Order (get_or ids w 0) (get_or ids v 0)) told.1),
    )
