-- How a pace goes on at queue actions, and that the harts of coarse runs may advance.
use Rattle.std.proofs.Common.{◌≡◌, ℕ, ◌+◌, Option, Some, None, refl, sym, ap, ◌∙◌, arith}
use Rattle.hart_model.specs.Context.{ContextState}
use Rattle.hart_model.specs.HartState.{HartState}
use Rattle.core_model.specs.declared.action.Action.{Action}
use Rattle.core_model.specs.declared.action.Action.TheVariants as actions
use Rattle.core_model.specs.declared.plan.Plan.{Plan}
use Rattle.core_model.specs.Orders.{HartPace, boot_pace, held_count, pace_after, plan_at}
use Rattle.timer_plan.specs.Pace.{PaceState, after_take}
use Rattle.timer_plan.proofs.Paces.{after_take-pace_of}
use Rattle.order_laws.proofs.LegalOrders.{harts-come}
use Rattle.hart_advance.specs.Pacing.{IsPaceOf}
use Rattle.hart_advance.specs.Laws.{PacesFollowActions, HartsCanAdvance}

-- a hart that holds nothing counts nothing
none-counts : (progress : HartPace) (ran : ℕ) (h : HartState) → h.held ≡ None → (c : ContextState) → h.held ≡ Some c
    → progress.taken_at + ran ≡ c.body.count
none-counts progress ran h none c some = let e : None ≡ Some c = sym none ∙ some in absurd (cc e)

-- where an action is no take, how far the hart is in its plan stays
module _ (plan : Plan) (progress : HartPace) (before after : HartState) (pace : PaceState) (none : after.held ≡ None)
    (is : IsPaceOf plan progress before pace) where
  same-pace : IsPaceOf plan progress after pace
  same-pace = record { ran = is.ran; drawn = is.drawn; counts = none-counts progress is.ran after none }

  stopped-pace : IsPaceOf plan (pace_after progress (held_count after.held) (Some actions.Empty)) after pace
  stopped-pace = record { ran = is.ran; drawn = is.drawn; counts = none-counts progress is.ran after none }

  other-pace : (action : Option Action) → ((task : ℕ) → ¬ (action ≡ Some (actions.Took task)))
      → IsPaceOf plan (pace_after progress (held_count after.held) action) after pace
  other-pace None no_take = same-pace
  other-pace (Some (actions.Took task)) no_take = absurd (no_take task refl)
  other-pace (Some actions.Empty) no_take = stopped-pace
  other-pace (Some (actions.GaveReady task)) no_take = same-pace
  other-pace (Some (actions.GaveDone task)) no_take = same-pace

pub paces-follow : PacesFollowActions
paces-follow = record {
  boots = λ plan h none. record { ran = 0; drawn = refl; counts = none-counts boot_pace 0 h none };
  takes = λ plan progress before after pace task is. record {
    ran = 0;
    drawn = ap after_take is.drawn ∙ after_take-pace_of plan progress.takes is.ran;
    counts = λ c held. (let count : held_count after.held ≡ c.body.count = ap held_count held in omega (arith, count));
  };
  others = λ plan progress before after pace action no_take none is. other-pace plan progress before after pace none is action no_take;
}

pub can-advance : HartsCanAdvance
can-advance k kernel loaded fits co kept number s share goes_on pace is room enough =
    let comes = harts-come k kernel loaded fits.limits co kept number s share goes_on in
    let few = comes.few in (
      record {
        loaded = loaded;
        kernel = k;
        number = number;
        within = fits.limits;
        is_kernel = kernel;
        words = refl;
        way = kept.core.harts number s.hart share.hart;
      },
      record {
        plan = plan_at loaded.plans number;
        progress = s.pace;
        number = number;
        action = comes.at;
        reaches = record { is_pace = is; own = comes.own };
        fits = omega (arith, few, enough);
      },
    )
