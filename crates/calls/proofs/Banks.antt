-- No answer and no field outside the banks depends on a bank byte: for every call but memory reads, memory writes and
-- `advances_dtr0_past`, a record with other banks gives the same answer, and a record that differs in its banks alone.
use Prim.Native.Nat.{ℕ}
use mathlib.Core.Path.{◌≡◌, refl}
use mathlib.Core.List.{[]}
use lib.Dec.{eqb, leb}
use Rattle.std.specs.Prelude.{Option, None, Some}
use Rattle.bank.specs.declared.build.Banks.{Banks}
use Rattle.gear.specs.declared.answer.Outcome.{Outcome}
use Rattle.gear.specs.declared.command.ConfigCommand.{ConfigCommand}
use Rattle.gear.specs.declared.command.ConfigCommand.TheVariants.{SetMaxLevel, SetMinLevel, SetSystemFailureLevel, SetPowerOnLevel, SetFadeTime, SetFadeRate, SetExtendedFadeTime, SetScene, RemoveScene, AddToGroup, RemoveFromGroup}
use Rattle.std.specs.Prelude.{Option, Some, None}
use Rattle.gear.specs.declared.command.StandardCommand.{StandardCommand}
use Rattle.gear.specs.declared.command.StandardCommand.TheVariants.{Arc, GoToScene, Reset, IdentifyDevice, Config, EnableWriteMemory}
use Rattle.gear.specs.declared.record.Gear.{Gear}
use Rattle.gear.specs.Command.{command_of}
use Rattle.gear.specs.Record.{fitb}
use Rattle.gear.specs.Serve.{serve, tell}
use Rattle.gear.specs.Write.{apply_standard_write, arc_write, config_write, direct_arc_power, enable_write, identify, recall_scene, remove_scene, set_min, set_power_on_level, set_scene, set_system_failure_level, write}
use Rattle.gear.specs.Answer.{Answer}
use Rattle.gear.specs.Parts.{with_banks}
use Rattle.query.specs.Reply.{gear_query_reply, heard_query, is_query, query, reported, report_for}
use Rattle.query.specs.Walk.{device_type, next, next_at, next_device_type}
use Rattle.numbers.proofs.Logic.{by_cases}

-- everything but the banks
abbrev pub unbanked : Gear → Gear
unbanked g = with_banks g (record { identity = []; profile = [] })

-- the same answer, and the same record but for the banks
pub record Alike (o p : Outcome) : Type 0 where
  pub answer : o.answer ≡ p.answer
  pub rest : unbanked o.gear ≡ unbanked p.gear

abbrev pub Blind : (Gear → Outcome) → Type 0
Blind call = (g : Gear) (b : Banks) → Alike (call (with_banks g b)) (call g)

abbrev pub BlindRead : (Gear → Answer) → Type 0
BlindRead read = (g : Gear) (b : Banks) → read (with_banks g b) ≡ read g

pub serve_alike : (g : Gear) (b : Banks) (o p : Outcome) → Alike o p → Alike (serve (with_banks g b) o) (serve g p)
unfolding serve fitb
serve_alike g b o p a =
    by_cases (fitb g) (λ e. rw e a) (λ e. rw e (record { answer = refl; rest = refl }))

pub tell_alike : (g : Gear) (b : Banks) (x : Answer) → tell (with_banks g b) x ≡ tell g x
unfolding tell fitb
tell_alike g b x = refl

-- ---- writes

config_alike : (g : Gear) (b : Banks) (k : ConfigCommand) (d : ℕ) → unbanked (config_write (with_banks g b) k d) ≡ unbanked (config_write g k d)
unfolding config_write set_min set_scene remove_scene set_power_on_level set_system_failure_level
config_alike g b SetMaxLevel d = refl
config_alike g b SetMinLevel d = refl
config_alike g b SetSystemFailureLevel d = refl
config_alike g b SetPowerOnLevel d = refl
config_alike g b SetFadeTime d = refl
config_alike g b SetFadeRate d = refl
config_alike g b SetExtendedFadeTime d = refl
config_alike g b (SetScene s) d = refl
config_alike g b (RemoveScene s) d = refl
config_alike g b (AddToGroup n) d = refl
config_alike g b (RemoveFromGroup n) d = refl

write_alike : (g : Gear) (b : Banks) (k : Option StandardCommand) (d : ℕ) → Alike (write (with_banks g b) k d) (write g k d)
unfolding write arc_write recall_scene identify enable_write
write_alike g b (Some (Arc a)) d = record { answer = refl; rest = refl }
write_alike g b (Some (GoToScene s)) d = record { answer = refl; rest = refl }
write_alike g b (Some Reset) d = record { answer = refl; rest = refl }
write_alike g b (Some IdentifyDevice) d = record { answer = refl; rest = refl }
write_alike g b (Some (Config k)) d = record { answer = refl; rest = config_alike g b k d }
write_alike g b (Some EnableWriteMemory) d = record { answer = refl; rest = refl }
write_alike g b None d = record { answer = refl; rest = refl }

pub standard_write_blind : (byte d : ℕ) → Blind (λ g. apply_standard_write g byte d)
unfolding apply_standard_write
standard_write_blind byte d g b = serve_alike g b _ _ (write_alike g b (command_of byte) d)

pub arc_power_blind : (v : ℕ) → Blind (λ g. direct_arc_power g v)
unfolding direct_arc_power arc_write
arc_power_blind v g b = serve_alike g b _ _ (record { answer = refl; rest = refl })

-- ---- queries

device_type_alike : (g : Gear) (b : Banks) → Alike (device_type (with_banks g b)) (device_type g)
unfolding device_type
device_type_alike g b =
    by_cases (eqb g.unit.count 0) (λ e. rw e (record { answer = refl; rest = refl }))
    (λ e.
    by_cases (eqb g.unit.count 1) (λ t. rw (e, t) (record { answer = refl; rest = refl }))
    (λ t. rw (e, t) (record { answer = refl; rest = refl })))

next_alike : (g : Gear) (b : Banks) (w : Option ℕ) → Alike (next (with_banks g b) w) (next g w)
unfolding next next_at
next_alike g b None = record { answer = refl; rest = refl }
next_alike g b (Some n) =
    by_cases (leb g.unit.count n) (λ e. rw e (record { answer = refl; rest = refl })) (λ e. rw e (record { answer = refl; rest = refl }))

-- nothing that a query reports is read from a bank
heard_alike : (g : Gear) (b : Banks) (byte : ℕ) → unbanked (heard_query (with_banks g b) byte) ≡ unbanked (heard_query g byte)
unfolding heard_query reported report_for
heard_alike g b byte = refl

query_alike : (g : Gear) (b : Banks) (byte : ℕ) → Alike (query (with_banks g b) byte) (query g byte)
unfolding query next_device_type
query_alike g b byte =
    by_cases (eqb byte 153) (λ e. rw e (device_type_alike g b))
    (λ e.
    by_cases (eqb byte 167) (λ t. rw (e, t) (next_alike g b g.marks.walk))
    (λ t.
    by_cases (is_query byte) (λ u. rw (e, t, u) (record { answer = refl; rest = heard_alike g b byte }))
    (λ u. rw (e, t, u) (record { answer = refl; rest = refl }))))

pub query_blind : (byte : ℕ) → Blind (λ g. gear_query_reply g byte)
unfolding gear_query_reply
query_blind byte g b = serve_alike g b _ _ (query_alike g b byte)
