-- The laws of this crate.
use Rattle.std.proofs.Common.{refl}
use Rattle.refs_binding.specs.declared.declaration.Declaration.TheVariants.{Declared}
use Rattle.law_agreement.proofs.Laws.{scope_loses_none}
use Rattle.law_renamed_workspaces.proofs.Harmless.{declared_harmless}
use Rattle.law_objects.specs.Objects.{UnprintedRenamesKeepObjects, GlobalRenamesReplaceNames, MethodRenamesReplaceNames, MemberRenamesReplaceNames}
use Rattle.law_objects.proofs.GlobalLaws.{unprinted_stay, globals_replaced}
use Rattle.law_objects.proofs.MemberLaws.{members_replaced, methods_replaced}

pub unprinted : UnprintedRenamesKeepObjects
unprinted w before after d name s plain right harmless alone none path text h =
    unprinted_stay w before after d name s plain right harmless alone none path text h

-- a plain rename that preserves bindings loses and captures no identifier
pub globals : GlobalRenamesReplaceNames
globals w before after own n name s plain right keeps is level =
    let harmless = declared_harmless w before own.path n name s plain (scope_loses_none w before own.path n name s plain keeps) in
    globals_replaced w before after (Declared own.path n) name s plain right harmless own n refl is level

pub methods : MethodRenamesReplaceNames
methods w before after method called type_called name s plain right harmless alone has_name owner =
    methods_replaced w before after method called type_called name s plain right harmless alone has_name owner

pub members : MemberRenamesReplaceNames
members w before after d called name s plain member right harmless has_name types are =
    members_replaced w before after d called name s plain member right harmless has_name types are
