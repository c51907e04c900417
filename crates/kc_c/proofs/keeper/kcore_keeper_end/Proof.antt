-- `kcore_keeper_end` moves the content out of the memory at the place, and lets it go.
use Rattle.std.proofs.Common.{[], ◌∷◌, refl, ap}
use Rattle.std.proofs.raw_atomic.Walks.{proved}
use base.Fraction.{full_share}
use base.Logic.{id⊢}
use base.Fml.{fat, froom, ftrue}
use mir.Val.{Val, vunit}
use contract.Running.{tables}
use types.Kit.{‵, raw, prop, some, later, ◌⊛◌, ◌$◌, ◌∵◌, !, qed, done, drop, use1, pick, split, join, fjoin, move, feq_i, feq_l, regoal, suffices, group, await}
use types.Run.{enter, of_opd, load, look, stop, unit_lit, returns, and_then, no_more}
use types.ByLocal.{alloc_all, pass_all, free_all, look_at, get, through, sets, lands_as}
use denote.Builtin.{unit}
use denote.Exit.{yes}
use denote.Laws.{Is, shows}
use denote.RawPtr.{Ptr, RawPtr, block_ptr, lies_at, in_a_block, rawptr_vals, rawptr_Tells}
use denote.Signature.{plain}
use denote.Steps.{nothing, peeks, only}
use denote.Param.{layout}
use denote.Triple.Call.{calls_at}
use denote.Triple.Clauses.{lasts, Lasts}
use denote.Triple.Entry.{on_entry}
use denote.Triple.Spec.{triple_of}
use denote.Triple.Table.{framed}
use denote.Triple.Walked.{Stays, walk_of, stay_dropped, Goes-dropped, ends_at}
use borrow.Table.OneValue.{part_out}
use prog.Wp.{WpFn}
use Rattle.kc_c.specs.contracts.keeping.Content.{the_row}
use Rattle.kc_c.proofs.keeping.Content.TheLaws.{the_row_laws}
use Rattle.kc_c.specs.contracts.keeping.let_go as g
use Rattle.kc_c.proofs.keeping.let_go.Met.{met}
use Rattle.kc_c.specs.contracts.keeper.kcore_keeper_end as f
use Rattle.kc_c.proofs.keeper.kcore_keeper_end.Statement.{statement}
use Rattle.kc_c.proofs.keeper.kcore_keeper_end.Code as code

abbrev stayed : Stays f.ended.signature.params f.ended.kept
stayed = (stay_dropped _ yes, tt)

pub kcore_keeper_end_spec : {M : Type 1} → statement M
kcore_keeper_end_spec 𝓤 𝓛 𝓜 𝓡 wired =
    let c = f.clauses 𝓛 𝓜.mem 𝓡.returns in let W = walk_of 𝓛 f.ended stayed c in let 𝓣 = tables 𝓤 𝓛.H 𝓜 𝓡 𝓡.env in
    proved 𝓛 f.ended stayed c 𝓜 𝓡 (Goes-dropped 𝓛 0 (plain (λ _. RawPtr)) yes (λ κs x w. refl), tt)
    f.Key.name code.function (code.unfolded 𝓤 𝓛.H 𝓜 𝓡 wired)
    (λ κs. (rawptr_vals, tt)) (λ κs. (rawptr_Tells, tt)) (λ κs qs bounds a n are.
    let y : Ptr → W.Ghost = λ p. ((κs, qs, bounds, (p, tt), (rawptr_vals p, tt)), n) in
    let G = triple_of 𝓛 g.signature (g.spec 𝓛 𝓜.mem 𝓡.returns) in
    qed 𝓛 (raw (on_entry 𝓛 f.signature κs qs a (y a.0).0.4) ∷ ‵ (lies_at the_row full_share a.0 n) ∷ []) ∵ drop ! $
    in_a_block ! a.0 (λ p. lies_at the_row full_share p n) (id⊢ 𝓤 _) (λ b o e.
    regoal ! (λ p. prop (WpFn 𝓤 𝓛.H 𝓣.C 𝓣.Λ code.function (rawptr_vals p) (W.post (y p)))) e refl $
    use1 𝓛 (some (λ (v : Val). ‵ (fat full_share (layout the_row) b o v) ⊛ ‵ (the_row.own_val n (v ∷ [])))) (part_out 𝓛 the_row refl full_share n b o) $
    pick ! (λ v. split ! $ move ! (1 ∷ []) $
    peeks ! the_row (Is the_row) (shows 𝓛 the_row) n (v ∷ []) (λ is.
    let t = ((the_row_laws.lawful 𝓛).typed n (v ∷ []) is).0 in
    enter ! _ _ _ _ _ $ alloc_all ! (λ l. pass_all ! refl ((tt, tt), tt) $
    -- [what the content owns; its cell; the locals]
    sets ! (of_opd ! (get ! refl)) refl (tt, tt) $
    sets ! (of_opd ! (load ! (through ! refl (stop !)) (look ! 1 refl))) refl t $
    let z : G.Ghost = ((κs, qs, bounds, (n, tt), (v ∷ [], tt)), tt) in
    nothing ! $ move ! (1 ∷ 0 ∷ []) $ fjoin ! $
    nothing ! $ join ! $ nothing ! $ move ! (1 ∷ 0 ∷ []) $ join ! $ use1 𝓛 (raw (G.pre z)) (id⊢ 𝓤 _) $
    calls_at ! (framed 𝓤 𝓛.H 𝓜 (tables 𝓤 𝓛.H 𝓜 𝓡 𝓡.env)) G (met 𝓤 𝓛 𝓜 𝓡 (code.calls-kc_c::keeping::let_go 𝓡.env wired)) z
    (and_then ! (get ! refl) (no_more !)) (λ u.
    use1 𝓛 (later (some (λ (r : Unit {0}). (‵ ftrue ⊛ ‵ (unit.own_val r (u ∷ []))) ⊛
    some (λ (ws : Lasts g.ended κs z.0.3). ‵ (lasts g.ended κs z.0.3 ws) ⊛ ‵ ftrue)))) (id⊢ 𝓤 _) $
    await ! tt $ pick ! (λ r. split ! $ split ! $ drop ! $ feq_l ! (λ is_unit. drop ! $
    lands_as ! (ap only is_unit) refl (tt, tt) $
    sets ! (of_opd ! (unit_lit !)) refl (tt, tt) $
    returns ! (look_at ! 0 refl) $ free_all ! refl $
    use1 𝓛 (‵ (froom (layout the_row) b o)) (𝓛.laws.at_room (layout the_row) b o v) $
    suffices ! _ (ends_at 𝓛 f.ended stayed c (y (block_ptr b o)) vunit tt (tt, tt) (tt, tt)) $
    feq_i ! _ (vunit ∷ []) _ refl $ nothing ! $ nothing ! $ join ! $ nothing ! $ group ! 3 $ done !))))))))
